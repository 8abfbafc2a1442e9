-- The spread of a twiddle scale: a bound on the sizes of a twiddle's two components together.
use Rattle.std.specs.Prelude.{ℕ, ◌+◌, ◌*◌, ◌/◌}

-- half as much again as the scale, rounded down, plus 1
abbrev pub spread : ℕ → ℕ
spread scale = 3 * scale / 2 + 1
