-- Whether a ternary word is well formed and what it matches, as tests that can be computed.
use Rattle.std.specs.Prelude.{Bool, false, ◌&&◌, ◌||◌, List, [], ◌∷◌, ℕ, ◌^◌, eqb, ltb}
use Rattle.std.specs.Int.Bits.{bit_and}
use Rattle.blocks.specs.declared.Word.{Word}

-- no bit of value or mask at n or above, and no value bit where the mask is 0
abbrev pub formed? : ℕ → Word → Bool
formed? n w = ltb w.value (2 ^ n) && ltb w.mask (2 ^ n) && eqb (bit_and w.value w.mask) w.value

-- a well-formed word matches x
abbrev pub matches? : Word → ℕ → Bool
matches? w x = eqb (bit_and x w.mask) w.value

-- some word of the list matches x
unfoldable pub some? : List Word → ℕ → Bool
some? [] x = false
some? (w ∷ ws) x = matches? w x || some? ws x
