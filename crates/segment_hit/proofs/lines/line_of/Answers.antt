use Rattle.std.proofs.Common.{arith}
use Rattle.segment_hit.specs.declared.vectors.TheConstants.{SPAN}
use Rattle.segment_hit.proofs.Passed.{number_passed}
use Rattle.segment_hit.proofs.Passages.{whole_second, whole_third, axis_passed}
use Rattle.segment_hit.proofs.lines.line_of.Goals as goal

pub axis_of-on_x-requires-clause-way : goal.axis_of-on_x-requires-clause-way
axis_of-on_x-requires-clause-way c =
    rw (number_passed c.way-x.result SPAN c.way-x.ensures.small (omega arith)) c.way-x.ensures.way

pub axis_of-on_y-requires-clause-way : goal.axis_of-on_y-requires-clause-way
axis_of-on_y-requires-clause-way c =
    rw (number_passed c.way-y.result SPAN c.way-y.ensures.small (omega arith)) c.way-y.ensures.way

pub axis_of-on_z-requires-clause-way : goal.axis_of-on_z-requires-clause-way
axis_of-on_z-requires-clause-way c =
    rw (number_passed c.way-z.result SPAN c.way-z.ensures.small (omega arith)) c.way-z.ensures.way

pub axis_of-on_y-requires-clause-whole : goal.axis_of-on_y-requires-clause-whole
axis_of-on_y-requires-clause-whole c =
    whole_second c.way-x.result c.way-y.result c.way-z.result c.product-yz.result c.product-whole.result c.way-x.ensures.small
    c.way-y.ensures.small c.way-z.ensures.small c.product-yz.ensures.size c.product-whole.ensures.size
    c.product-yz.ensures.value c.product-whole.ensures.value c.product-xz.result c.product-xz.ensures.size
    c.product-xz.ensures.value

pub axis_of-on_z-requires-clause-whole : goal.axis_of-on_z-requires-clause-whole
axis_of-on_z-requires-clause-whole c =
    whole_third c.way-x.result c.way-y.result c.way-z.result c.product-yz.result c.product-whole.result c.way-x.ensures.small
    c.way-y.ensures.small c.way-z.ensures.small c.product-yz.ensures.size c.product-whole.ensures.size
    c.product-yz.ensures.value c.product-whole.ensures.value c.product-xy.result c.product-xy.ensures.size
    c.product-xy.ensures.value

pub returns : goal.returns
returns c = record {
  on_x = axis_passed c.args.p.now.x c.args.q.now.x _ _ c.axis_of-on_x.result c.joined.result.x
      c.requires.p.x c.requires.q.x c.joined.ensures.x c.joined.ensures.whole c.axis_of-on_x.ensures;
  on_y = axis_passed c.args.p.now.y c.args.q.now.y _ _ c.axis_of-on_y.result c.joined.result.y
      c.requires.p.y c.requires.q.y c.joined.ensures.y c.joined.ensures.whole c.axis_of-on_y.ensures;
  on_z = axis_passed c.args.p.now.z c.args.q.now.z _ _ c.axis_of-on_z.result c.joined.result.z
      c.requires.p.z c.requires.q.z c.joined.ensures.z c.joined.ensures.whole c.axis_of-on_z.ensures;
}
