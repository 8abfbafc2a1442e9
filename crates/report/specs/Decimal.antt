-- Which hundredths bound a quotient, and the text of a decimal.
use Rattle.std.specs.Prelude.{◌≡◌, ℕ, ◌+◌, ◌*◌, ◌/◌, ◌%◌, ◌<◌, ◌≤◌, List, ◌++◌, ℤ, pos, codes, decimal, unsigned_abs}
use Rattle.std.specs.Int.{is_negative}
use Rattle.std.specs.Fmt.{sign_text}
use Rattle.report.specs.declared.decimal.Decimal.{Decimal}

-- h hundredths are the least that are not below size/scale: 100·size ≤ h·scale < 100·size + scale
pub record LeastAbove (size scale : ℕ) (h : ℤ) : Type 0 where
  pub count : ℕ
  pub whole : h ≡ pos count
  pub above : 100 * size ≤ count * scale
  pub least : count * scale < 100 * size + scale

-- a minus where the number is negative, the whole part, a point, the tenths and the hundredths
abbrev pub hundredths_text : ℤ → List ℕ
hundredths_text h =
    let size = unsigned_abs h in
    sign_text (is_negative h) ++ (decimal (size / 100) ++ (codes "." ++ (decimal (size / 10 % 10) ++ decimal (size % 10))))

abbrev pub decimal_text : Decimal → List ℕ
decimal_text d = hundredths_text d.hundredths
