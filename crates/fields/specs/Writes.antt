-- What a list holds after something was written to it.
use Rattle.std.specs.Prelude.{List, ◌++◌, ℕ, ◌+◌, drop, length, take}

-- d with s written from place i on, and the rest as it was
unfoldable pub write_at : List ℕ → ℕ → List ℕ → List ℕ
write_at d i s = take i d ++ (s ++ drop (i + length s) d)
