use Rattle.std.proofs.Common.{◌∙◌}
use Rattle.world_index.proofs.WorldBoxes.{face_of_number}
use Rattle.world_index.proofs.corners.CornersTriangles.triangle.Goals as goal

pub returns : goal.returns
returns c =
    c.triangle.ensures
    ∙ face_of_number c.args.self.now.points.now c.args.self.now.faces.now c.args.number _ c.requires.from_one
    c.requires.to_count
