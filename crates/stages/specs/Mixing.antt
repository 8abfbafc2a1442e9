-- The entries that go into a butterfly and come out of it, in place.
use Rattle.std.specs.Prelude.{◌≡◌, ℕ, ◌+◌, ◌*◌, ◌<◌, List, slice_index_or}
use Rattle.integers.specs.declared.Complex.{Complex}
use Rattle.scheme.specs.Meaning.{Meaning, View}
use Rattle.scheme.specs.Hidden.{StandsPair}

-- r entries of a block, entry i at place first + i·span, are replaced: in every view, whatever numbers x(0) to x(r − 1) they stood
-- for, afterwards entry l stands for number l of f x; every other place keeps its pair
pub record Replaced {Number : Type 0} (m : Meaning Number) (r first span : ℕ) (f : (ℕ → Complex) → ℕ → Complex) (before after : List (Number × Number)) : Type 0 where
  pub made : (v : View) (d : Number × Number) (x : ℕ → Complex) → ((i : ℕ) → i < r → StandsPair m v (x i) (slice_index_or before (first + i * span) d)) → (l : ℕ) → l < r → StandsPair m v (f x l) (slice_index_or after (first + l * span) d)
  pub kept : (p : ℕ) → ((i : ℕ) → i < r → p ≡ first + i * span → ⊥) → (d : Number × Number) → slice_index_or after p d ≡ slice_index_or before p d
