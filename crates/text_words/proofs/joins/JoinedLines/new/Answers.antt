use Rattle.std.proofs.Common.{rules}
use Rattle.text_words.proofs.Cuts.{length-lines_of}
use Rattle.text_words.proofs.joins.JoinedLines.new.Goals as goal

pub behind_lines-requires : goal.behind_lines-requires
behind_lines-requires c = search (rules, length-lines_of c.args.text.now)
