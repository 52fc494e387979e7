-- `records::Rule::to_bytes` meets its contract: the fields' bytes follow each other. Assumes nothing.
use mathlib.Core.Path.{◌∙◌}
use native.Mathlib.Omega.{arith}
use Rattle.fields.proofs.BigEndian.{bytes2, bytes4}
use Rattle.records.specs.Rules.{rule_bytes}
use Rattle.records.proofs.Rule.to_bytes.Goals as goal

pub returns : goal.returns
unfolding rule_bytes
returns c =
    rw (
      c.to_be_bytes.ensures ∙ bytes4 c.args.self.src (omega arith),
      c.to_be_bytes-2.ensures ∙ bytes4 c.args.self.dst (omega arith),
      c.to_be_bytes-3.ensures ∙ bytes2 c.args.self.slow (omega arith),
      c.to_be_bytes-4.ensures ∙ bytes2 c.args.self.shigh (omega arith),
      c.to_be_bytes-5.ensures ∙ bytes2 c.args.self.dlow (omega arith),
      c.to_be_bytes-6.ensures ∙ bytes2 c.args.self.dhigh (omega arith),
    )
