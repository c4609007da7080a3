use Rattle.std.proofs.Common.{◌-◌, [], length, take, drop, ap, arith, rules}
use Rattle.obj_text.specs.declared.sections.Section.{Section}
use Rattle.obj_text.proofs.SectionLists.{first_and_later, first_of}
use Rattle.obj_text.proofs.sections.+vertices_of_all.Goals as goal

-- the section that stands where no section is
no_section : Section
no_section = record { text = record { ref_ptr = (0, 0); now = [] }; vertices = 0 }

pub vertices_of_all-requires : goal.vertices_of_all-requires
vertices_of_all-requires t c =
    let sections = c.args.sections.now in
    let later = take (length sections - 1) (drop 1 sections) in
    let cut = first_and_later no_section sections c.in-len1-up.len_at_least in
    let first = first_of sections later _ cut c.requires.each in (
      omega (arith, ap length cut),
      (first.counted, omega (arith, first.vertices, c.requires.few)),
    )

pub returns : goal.returns
returns t c =
    let sections = c.args.sections.now in
    let later = take (length sections - 1) (drop 1 sections) in
    let cut = first_and_later no_section sections c.in-len1-up.len_at_least in
    let first = first_of sections later _ cut c.requires.each in
    search (rules, first.vertices)
