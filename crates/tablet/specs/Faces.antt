-- What the C face adds to the calls that it hands on to: an index in 32 bits, and a walk whose flag is a number. And the parts
-- of an outcome, each as the answer that it makes.
use Rattle.std.specs.Prelude.{Bool, not, ℕ, ◌%◌, ◌^◌, Option, None, Some, eqb, if◌then◌else◌}
use Rattle.answers.specs.Answers.{done}
use Rattle.answers.specs.declared.Answer.{Answer}
use Rattle.intervals.specs.Checks.{verdict_as}
use Rattle.intervals.specs.Walks.{Stepped, stepping}
use Rattle.intervals.specs.declared.walks.Walk as inner
use Rattle.records.specs.Actions.{action_number}
use Rattle.rules.specs.declared.finding.Found as rule
use Rattle.tables.specs.declared.finding.Found as record_found
use Rattle.tablet.specs.declared.convert.Verdict.{Verdict}
use Rattle.tablet.specs.declared.steps.Step.{Step}
use Rattle.tablet.specs.declared.steps.Walk.{Walk}

-- an answer whose first value is given in 32 bits
abbrev pub in32 : Answer → Answer
in32 r = record { no = r.no; a = r.a % 2 ^ 32; b = r.b; c = r.c; d = r.d }

-- a walk as it is handed in: any number but 0 means ended
abbrev pub handed_in : Walk → inner.Walk
handed_in w = record { width = w.width; next = w.next; last = w.last; ended = not (eqb w.ended 0) }

abbrev pub flag : Bool → ℕ
flag b = if b then 1 else 0

abbrev pub handed_out : inner.Walk → Walk
handed_out w = record { width = w.width; next = w.next; last = w.last; ended = flag w.ended }

-- the step, with the walk that was handed in where no word was given
abbrev pub face_of : Walk → Stepped → Step
face_of w s = record {
  no = s.no;
  given = s.given;
  value = s.word.value;
  mask = s.word.mask;
  walk = if eqb s.given 0 then w else handed_out s.walk;
}

unfoldable pub step_face : Walk → Step
step_face w = face_of w (stepping (handed_in w))

-- ---- the parts of an outcome

-- what is found, or nothing
abbrev pub or_nothing : {A : Type 0} → (A → Answer) → Option A → Answer
or_nothing says None = done 0 0 0 0
or_nothing says (Some x) = says x

abbrev pub rule_as : rule.Found → Answer
rule_as f = done 1 f.rule (action_number f.action) 0

abbrev pub record_as : record_found.Found → Answer
record_as f = done 1 f.index f.rule (action_number f.action)

abbrev pub verdict_in : Verdict → Answer
verdict_in v = verdict_as v.0
