-- Blocks of hidden pairs, place by place.
use Rattle.std.specs.Prelude.{ℕ, ◌<◌, Bool, false, List, map, length, pos, slice_index_or}
use Rattle.integers.specs.declared.Complex.{Complex}
use Rattle.integers.specs.Complex.{complex}
use Rattle.scheme.specs.Meaning.{Meaning, View}
use Rattle.scheme.specs.Hidden.{StandsPair, read_pair, well_formed}

-- place i of the block is there and holds a well-formed pair
unfoldable pub is_well_formed_at : {Number : Type 0} → Meaning Number → List (Number × Number) → ℕ → Bool
is_well_formed_at m xs i = slice_index_or (map (well_formed m) xs) i false

-- what is read at place i of the block in the view v
unfoldable pub read_at : {Number : Type 0} → Meaning Number → View → List (Number × Number) → ℕ → Complex
read_at m v xs i = slice_index_or (map (read_pair m v) xs) i (complex (pos 0) (pos 0))

-- place i of the block is there, and its pair stands for z in the view v
pub record StandsAt {Number : Type 0} (m : Meaning Number) (v : View) (z : Complex) (xs : List (Number × Number)) (i : ℕ) : Type 0 where
  pub within : i < length xs
  pub pair : (d : Number × Number) → StandsPair m v z (slice_index_or xs i d)
