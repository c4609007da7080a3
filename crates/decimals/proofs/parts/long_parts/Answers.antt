use Rattle.std.proofs.Common.{rules}
use Rattle.decimals.proofs.Words.{parts_read}
use Rattle.decimals.proofs.parts.long_parts.Goals as goal

pub returns : goal.returns
returns c =
    parts_read c.args.word.now _ c.digits-whole.result.0 c.digits-whole.result.1 (record {
      minus = search rules;
      whole_is = search rules;
      before_is = search rules;
      mantissa = search rules;
      places = search rules;
      some = search rules;
      ends = search rules;
      raised = search rules;
      lowered = search rules;
      one = search rules;
    })
