pub mod NearerNeighbour
pub mod SpanLists
pub mod PartLaws
pub mod KeyLists
pub mod PackLaws
pub mod LinkLaws
pub mod FewKeys
pub mod TriangleBoxes
