-- A table of real samples as the samples of a transform.
use Rattle.std.specs.Prelude.{ℕ, List, ℤ, pos, slice_index_or}
use Rattle.integers.specs.declared.Complex.{Complex}
use Rattle.integers.specs.Complex.{real}

-- sample n, 0 past the table's end
abbrev pub samples_of : List ℤ → ℕ → Complex
samples_of xs n = real (slice_index_or xs n (pos 0))
