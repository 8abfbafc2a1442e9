-- The mask words under which a house would have seen the same numbers for other samples.
use Rattle.std.specs.Prelude.{◌≡◌, ℕ, Bool, true, false, List, [], ◌∷◌, ℤ, pos, ◌-ℤ◌, Some, None, Option}
use Rattle.integers.specs.declared.Complex.{Complex}
use Rattle.integers.specs.Residue.{residue}
use Rattle.split.specs.declared.halves.Halves.{Halves}
use Rattle.plain.specs.Residues.{residues}
use Rattle.split.specs.Shares.{split}
use Rattle.states.specs.declared.State.TheVariants.{Idle}
use Rattle.states.specs.declared.Call.{Call}
use Rattle.states.specs.Step.{Pairs}
use Rattle.secrecy.specs.declared.House.{House}
use Rattle.secrecy.specs.declared.House.TheVariants.{First, Second}
use Rattle.secrecy.specs.Secrecy.{After, Answers, answers_of, Run, loaded, SecondSamples, Indistinguishable}

-- the house as the law on runs speaks of it
abbrev pub side : House → Bool
side First = false
side Second = true

-- the word for z, where the house h held its half of x: that half itself for the first house, the residue of z less that half for the second
abbrev pub word : ℕ → Bool → ℤ → Halves ℕ → ℕ
word n false z x = x.first
word n true z x = residue (z -ℤ pos x.second) n

-- the words for both components of a sample
abbrev pub words : ℕ → Bool → Complex → Halves ℕ × Halves ℕ → ℕ × ℕ
words n h z x = (word n h z.re x.0, word n h z.im x.1)

-- the words of all samples, each with the pair that the house held its halves of
abbrev pub words_of : ℕ → Bool → List (Halves ℕ × Halves ℕ) → List Complex → List (ℕ × ℕ)
words_of n h [] zs = []
words_of n h (x ∷ xs) [] = []
words_of n h (x ∷ xs) (z ∷ zs) = words n h z x ∷ words_of n h xs zs

-- the pair of a call, where it was an accepted load, then the others
abbrev pub loads_first : {A : Type 0} → Option A → List A → List A
loads_first None xs = xs
loads_first (Some x) xs = x ∷ xs

-- the pairs of the accepted loads, in order
abbrev pub loads : {N : Type 0} → List (Call N) → Answers → List (N × N)
loads [] rs = []
loads (c ∷ cs) [] = []
loads (c ∷ cs) (r ∷ rs) = loads_first (loaded r c) (loads cs rs)

-- the words of all second samples, one pair for each accepted load
abbrev pub masks : ℕ → Bool → List (Call (Halves ℕ)) → Answers → List Complex → List (ℕ × ℕ)
masks n h cs rs zs = words_of n h (loads cs rs) zs

-- with these words the house h would have seen the same: whatever list ran on a new window over whatever block, if xs are the pairs of its accepted loads
-- and zs are second samples for them
abbrev pub Serve : ℕ → Bool → List (Halves ℕ × Halves ℕ) → List Complex → List (ℕ × ℕ) → Type 0
Serve n h xs zs ws = (start : Pairs (Halves ℕ)) (cs : List (Call (Halves ℕ))) (ts : List (After (Halves ℕ))) → Run (split (residues n)) Idle start cs ts → loads cs (answers_of ts) ≡ xs → SecondSamples None cs (answers_of ts) zs → Indistinguishable n h start cs ts zs ws
