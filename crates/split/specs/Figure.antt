-- The worked figure of the split: −5 with the mask word 70, over the plain residues modulo 81.
use Rattle.std.specs.Prelude.{◌≡◌, ℕ, negsuc, Ok, Result}
use Rattle.refusal.specs.declared.kinds.Refusal.{Refusal}
use Rattle.plain.specs.Residues.{residues}
use Rattle.scheme.specs.Meaning.{hides}
use Rattle.scheme.specs.Sealing.{means}
use Rattle.split.specs.declared.halves.Halves.{Halves}
use Rattle.split.specs.Shares.{split}

-- the halves 70 and 6
abbrev pub figure : Halves ℕ
figure = record { first = 70; second = 6 }

-- they are what is answered; together they hide 76, which means −5
pub record SealedFigure (answer : Result (Halves ℕ) Refusal) : Type 0 where
  pub halves : answer ≡ Ok figure
  pub hidden : hides (split (residues 81)) figure ≡ 76
  pub meant : means (split (residues 81)) figure ≡ negsuc 4
