-- The worked figure, from what seal owes.
use Rattle.std.proofs.Common.{◌≡◌, ℕ, pos, negsuc, ◌-ℤ◌, Ok, Err, Result, refl, ◌∙◌, ap₂, arith}
use Rattle.std.proofs.lemmas.Bool.{true≢false}
use Rattle.refusal.specs.declared.kinds.Refusal.{Refusal}
use Rattle.integers.specs.Residue.{residue, centred}
use Rattle.plain.specs.Residues.{residues}
use Rattle.scheme.specs.Meaning.{Seals, TooLarge, NotTaken}
use Rattle.scheme.proofs.Refusing.{refuses_never}
use Rattle.split.specs.declared.halves.Halves.{Halves}
use Rattle.split.specs.Shares.{split, SealsHalves}
use Rattle.split.specs.Figure.{SealedFigure}

rest : residue (negsuc 4 -ℤ pos 70) 81 ≡ 6
unfolding residue
rest = refl

meant : centred 76 81 ≡ negsuc 4
unfolding centred
meant = refl

pub figure_stands_lem : (r : Result (Halves ℕ) Refusal) → Seals (split (residues 81)) (negsuc 4) 70 r → SealsHalves (residues 81) (negsuc 4) 70 r → SealedFigure r
figure_stands_lem (Ok x) h k =
    record { halves = ap₂ (λ (a b : ℕ). Ok (record { first = a; second = b })) k.first (k.second ∙ rest); hidden = refl; meant = meant }
figure_stands_lem (Err e) h k =
    absurd (refuses_never (TooLarge (split (residues 81)) (negsuc 4)) (NotTaken (split (residues 81)) (negsuc 4) 70) e (λ t. omega (arith, t.above)) (λ t. true≢false t.strange) h)
