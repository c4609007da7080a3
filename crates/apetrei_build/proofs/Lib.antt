pub mod ParentLaws
pub mod OneTree
