-- The meaning of the rerandomised scheme, and what making it answers.
use Rattle.std.specs.Prelude.{◌≡◌, ℕ, ◌*◌, ◌%◌, true, false, Ok, Err, Result, ◌==◌, nat_lt}
use Rattle.integers.specs.Modulus.{is_modulus}
use Rattle.refusal.specs.declared.kinds.Refusal.{Refusal}
use Rattle.refusal.specs.declared.kinds.Refusal.TheVariants.{Modulus}
use Rattle.scheme.specs.Meaning.{Meaning}
use Rattle.rerandomised.specs.declared.Rerandomised.{Rerandomised}

-- numbers below twice n are well formed and hide their remainder; odd words are taken
abbrev pub twofold : ℕ → Meaning ℕ
twofold n = record { modulus = n; takes = λ w. (w % 2 == 1); wf = λ x. nat_lt x (2 * n); reads = λ v x. x % n }

-- the scheme modulo n, no sum counted, where n is a modulus; else the refusal
abbrev pub Makes : ℕ → Result Rerandomised Refusal → Type 0
Makes n (Ok s) = (is_modulus n ≡ true) × (s.modulus.n ≡ n) × (s.sums ≡ 0)
Makes n (Err e) = (e ≡ Modulus) × (is_modulus n ≡ false)
