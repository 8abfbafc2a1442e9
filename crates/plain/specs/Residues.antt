-- The meaning of plain residues modulo n: a number below n is well formed and hides itself; the words below n are taken.
use Rattle.std.specs.Prelude.{ℕ, nat_lt}
use Rattle.scheme.specs.Meaning.{Meaning}

abbrev pub residues : ℕ → Meaning ℕ
residues n = record { modulus = n; takes = λ w. nat_lt w n; wf = λ x. nat_lt x n; reads = λ v x. x }
