-- A line of six fields: each return of the code is one of the tests' cases. Assumes nothing.
use mathlib.Core.Bool.{true}
use mathlib.Core.List.{List}
use mathlib.Core.Path.{◌≡◌}
use Prim.Native.Nat.{ℕ, ◌≤◌}
use native.Mathlib.Omega.{arith}
use borrow.Author.Tests.{eq-eqb, le-ltb, ne_eqb}
use Rattle.std.specs.Option.{ok_or}
use Rattle.std.specs.Prelude.{Option, None, Ok, Err}
use Rattle.records.specs.Actions.{action_number}
use Rattle.records.specs.Layout.{last_action}
use Rattle.records.specs.declared.actions.Action.{Action}
use Rattle.records.specs.declared.actions.Action.TheVariants.{Permit, Deny, PermitLog, DenyLog}
use Rattle.sheets.specs.Cuts.{after, before, times}
use Rattle.sheets.specs.Numbers.{none}
use Rattle.sheets.specs.Parts.{Address, Ports, action_of, address_of, any, bad_address, bad_ports, no_action, ports_of, protocol_of}
use Rattle.sheets.specs.Rows.{row_from, row_of, rule_of}
use Rattle.texts.specs.Lines.{tab}

-- what is named where something is missing
pub missing : {A E : Type 0} (o : Option A) (e f : E) → Err f ≡ ok_or o e → o ≡ None → f ≡ e
missing o e f h n = let k = rw n at h in cc

pub action_last : (a : Action) → action_number a ≤ last_action
action_last Permit = omega arith
action_last Deny = omega arith
action_last PermitLog = omega arith
action_last DenyLog = omega arith

pub row_marks : (s : List ℕ) (n : ℕ) → n ≡ times tab s → (n ≡ 5 → ⊥) → Err 0 ≡ row_of s
unfolding row_of
row_marks s n t m = rw (← t, ne_eqb n 5 m)

-- the six fields of s, from which its rule is made
pub record SixFields (s t1 t2 t3 t4 t5 t6 : List ℕ) : Type 0 where
  pub says : row_from (protocol_of t1) (address_of t2) (address_of t3) (ports_of t4) (ports_of t5) (action_of t6) ≡ row_of s

-- s2 to s6 are what stands after a tab each, t1 to t5 what stands before it
pub six_fields : (s : List ℕ) {s2 s3 s4 s5 s6 t1 t2 t3 t4 t5 : List ℕ} (n : ℕ) → n ≡ times tab s → n ≡ 5
    → (t1 ≡ before tab s) × (s2 ≡ after tab s) → (t2 ≡ before tab s2) × (s3 ≡ after tab s2) → (t3 ≡ before tab s3) × (s4 ≡ after tab s3)
    → (t4 ≡ before tab s4) × (s5 ≡ after tab s4) → (t5 ≡ before tab s5) × (s6 ≡ after tab s5) → SixFields s t1 t2 t3 t4 t5 s6
unfolding row_of
six_fields s n e five h1 h2 h3 h4 h5 =
    record { says = rw (h5.0, h5.1, h4.0, h4.1, h3.0, h3.1, h2.0, h2.1, h1.0, h1.1, ← e, eq-eqb n 5 five) }

module _ {s t1 t2 t3 t4 t5 t6 : List ℕ} (six : SixFields s t1 t2 t3 t4 t5 t6) where
  pub row_protocol : none ≡ protocol_of t1 → Err 1 ≡ row_of s
  unfolding row_from
  row_protocol a = rw (← six.says, ← a)

  module _ {p : ℕ} (small : p ≤ any) (a : p ≡ protocol_of t1) where
    pub row_source : bad_address ≡ address_of t2 → Err 2 ≡ row_of s
    unfolding row_from
    row_source b = rw (← six.says, ← a, ← b, le-ltb any p small)

    module _ {src : Address} (u : src.good ≡ true) (b : src ≡ address_of t2) where
      pub row_destination : bad_address ≡ address_of t3 → Err 3 ≡ row_of s
      unfolding row_from
      row_destination c = rw (← six.says, ← a, ← b, ← c, le-ltb any p small, u)

      module _ {dst : Address} (v : dst.good ≡ true) (c : dst ≡ address_of t3) where
        pub row_source_ports : bad_ports ≡ ports_of t4 → Err 4 ≡ row_of s
        unfolding row_from
        row_source_ports d = rw (← six.says, ← a, ← b, ← c, ← d, le-ltb any p small, u, v)

        module _ {sports : Ports} (w : sports.good ≡ true) (d : sports ≡ ports_of t4) where
          pub row_destination_ports : bad_ports ≡ ports_of t5 → Err 5 ≡ row_of s
          unfolding row_from
          row_destination_ports f = rw (← six.says, ← a, ← b, ← c, ← d, ← f, le-ltb any p small, u, v, w)

          module _ {dports : Ports} (x : dports.good ≡ true) (f : dports ≡ ports_of t5) where
            pub row_action : no_action ≡ action_of t6 → Err 6 ≡ row_of s
            unfolding row_from
            row_action g = rw (← six.says, ← a, ← b, ← c, ← d, ← f, ← g, le-ltb any p small, u, v, w, x)

            pub row_good : {act : ℕ} → act ≤ last_action → act ≡ action_of t6 → Ok (rule_of p src dst sports dports act) ≡ row_of s
            unfolding row_from
            row_good {act} k g = rw (← six.says, ← a, ← b, ← c, ← d, ← f, ← g, le-ltb any p small, u, v, w, x, le-ltb last_action act k)
