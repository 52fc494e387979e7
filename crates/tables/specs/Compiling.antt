-- Compiling a rule list: what is answered, and what a lent table holds afterwards.
use Rattle.std.specs.Prelude.{List, ◌≡◌, ℕ, ◌≤◌, Result, Ok, ltb, length, if◌then◌else◌}
use Rattle.answers.specs.Answers.{answer_of, done, one_number, refused}
use Rattle.answers.specs.Lent.{Lent}
use Rattle.answers.specs.Refusals as refusal
use Rattle.answers.specs.declared.Answer.{Answer}
use Rattle.entries.specs.Words.{entries_of, needed}
use Rattle.records.specs.Entries.{table_bytes}
use Rattle.records.specs.Layout.{room_of}
use Rattle.records.specs.Rules.{all_rules}
use Rattle.rules.specs.Faults.{behind_rules, list_fault_as, tested_rules}
use Rattle.rules.specs.declared.faults.ListFault.{ListFault}
use Rattle.tables.specs.declared.compiling.CompileError.{CompileError}
use Rattle.tables.specs.declared.compiling.CompileError.TheVariants.{Rules, Space}

-- document 01's number and values for each answer
abbrev pub compile_error_as : CompileError → Answer
compile_error_as (Rules f) = list_fault_as f
compile_error_as (Space k) = refused refusal.space k 0

abbrev pub compiled_as : Result ℕ CompileError → Answer
compiled_as = answer_of one_number compile_error_as

-- a list's fault as one of compiling
abbrev pub compile_fault : ListFault → CompileError
compile_fault f = Rules f

-- the answer where the table lent has so many bytes
unfoldable pub compiling : List ℕ → ℕ → Answer
compiling l bytes =
    let k = needed (all_rules l) in
    behind_rules (tested_rules l) (if ltb (room_of bytes) k then refused refusal.space k 0 else done k 0 0 0)

-- the promise of `compile`: what is answered, and the records at the start of the table lent
abbrev pub Compiling : List ℕ → List ℕ → Answer → List ℕ → Type 0
Compiling l before = Lent (compiling l (length before)) (table_bytes (entries_of 0 (all_rules l))) before

-- what a list has that was compiled into so many bytes: it is well formed, and there is room for its words
pub record Taken (l : List ℕ) (bytes : ℕ) : Type 0 where
  pub good : tested_rules l ≡ Ok tt
  pub room : needed (all_rules l) ≤ room_of bytes
