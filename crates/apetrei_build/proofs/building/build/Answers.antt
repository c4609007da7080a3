use Rattle.std.proofs.Common.{◌≡◌, ◌-◌, ◌∙◌, sym, arith, rules, refl, length, List}
use Rattle.std.specs.Prelude.{[]}
use Rattle.fixed_box.specs.declared.shapes.Box3.{Box3}
use Rattle.morton_key.specs.declared.keys.Key.{Key}
use Rattle.radix_tree.specs.Fit.{table_of, nodes_from}
use Rattle.apetrei_build.proofs.building.build.Goals as goal

-- fewer than two keys have no node
no_nodes : (keys : List Key) (boxes : List Box3) → length keys - 1 ≡ 0 → table_of keys boxes ≡ []
unfolding table_of nodes_from
no_nodes keys boxes none = rw none refl

pub returns-then-len-lt2-clause-value : goal.returns-then-len-lt2-clause-value
returns-then-len-lt2-clause-value g c =
    let made : c.of.result.nodes ≡ [] = search rules in
    made ∙ sym (no_nodes c.args.keys.items c.args.boxes.now (omega arith))
