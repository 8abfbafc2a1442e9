-- The refusals of sealing, taken together.
use Rattle.std.proofs.Common.{ℕ, ◌<◌, ◌%◌, pos, [], Ok, Err, Result, IsOkAnd, sym, ◌∙◌, mod-lt, arith}
use Rattle.std.proofs.lemmas.Bool.{true≢false}
use Rattle.refusal.specs.declared.kinds.Refusal.{Refusal}
use Rattle.refusal.specs.declared.kinds.Refusal.TheVariants.{Size, SampleScale, TwiddleScale, Block, Narrow, Moment, Place, Strange, Malformed, Short, Large, Mask, Modulus, Garbled, Long}
use Rattle.integers.specs.Residue.{centred}
use Rattle.integers.proofs.Residues.{centred_within, centred_back, residue_pos}
use Rattle.scheme.specs.Meaning.{Meaning, Sound, Seals, TooLarge, NotTaken, Refuses}
use Rattle.scheme.specs.Hidden.{Stands}

-- where neither large nor mask is possible, nothing is refused
pub refuses_never : (L M : Type 0) (e : Refusal) → (L → ⊥) → (M → ⊥) → Refuses L M e → ⊥
refuses_never L M Large l m h = l h
refuses_never L M Mask l m h = m h
refuses_never L M Size l m h = h
refuses_never L M SampleScale l m h = h
refuses_never L M TwiddleScale l m h = h
refuses_never L M Block l m h = h
refuses_never L M Narrow l m h = h
refuses_never L M Moment l m h = h
refuses_never L M Place l m h = h
refuses_never L M Strange l m h = h
refuses_never L M (Malformed p) l m h = h
refuses_never L M Short l m h = h
refuses_never L M Modulus l m h = h
refuses_never L M Garbled l m h = h
refuses_never L M Long l m h = h

-- the meaning of a residue is never refused with the word 1
pub residue_sealed : {Number : Type 0} (s : Meaning Number) → Sound s → (r : ℕ) (e : Refusal) → r < s.modulus → Refuses (TooLarge s (centred r s.modulus)) (NotTaken s (centred r s.modulus) 1) e → ⊥
residue_sealed s k r e h =
    refuses_never (TooLarge s (centred r s.modulus)) (NotTaken s (centred r s.modulus) 1) e
    (λ t. omega (arith, t.above, centred_within r s.modulus k.odd h))
    (λ t. true≢false (sym k.one ∙ t.strange))

-- what sealing the meaning of a residue with the word 1 answers is a number that stands for it
pub residue_answered : {Number : Type 0} (s : Meaning Number) → Sound s → (r : ℕ) (x : Result Number Refusal) → Seals s (centred (r % s.modulus) s.modulus) 1 x → IsOkAnd x (Stands s [] (pos r))
residue_answered s k r (Ok x) h = record { wf = h.wf; reads = h.hidden ∙ centred_back (r % s.modulus) s.modulus (mod-lt r (omega (arith, k.least))) ∙ sym (residue_pos r s.modulus) }
residue_answered s k r (Err e) h = absurd (residue_sealed s k (r % s.modulus) e (mod-lt r (omega (arith, k.least))) h)
