-- `records::Key::from_bytes` meets its contract: each field is read at its place. Assumes nothing.
use mathlib.Core.Path.{◌∙◌}
use Rattle.fields.proofs.BigEndian.{number2, number4}
use Rattle.records.proofs.Layouts.{key_read}
use Rattle.records.proofs.Key.from_bytes.Goals as goal

pub returns : goal.returns
returns c =
    key_read _ _ _ _ _ (c.from_be_bytes.ensures ∙ number4 _ _ _ _) (c.from_be_bytes-2.ensures ∙ number4 _ _ _ _)
    (c.from_be_bytes-3.ensures ∙ number2 _ _) (c.from_be_bytes-4.ensures ∙ number2 _ _)
