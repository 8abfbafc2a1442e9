-- Neither house's numbers tell the samples: under the split over plain residues, what a house holds after each call is the same for
-- any other samples, sealed with masks of their own.
use Rattle.std.specs.Prelude.{◌≡◌, ℕ, ◌<◌, Bool, true, false, List, [], ◌∷◌, map, length, ℤ, pos, ◌-ℤ◌, Some, None, Ok, Err, Option, Result}
use Rattle.integers.specs.declared.Complex.{Complex}
use Rattle.integers.specs.Modulus.{is_modulus}
use Rattle.integers.specs.Residue.{residue}
use Rattle.refusal.specs.declared.kinds.Refusal.{Refusal}
use Rattle.lines.specs.Laws.{Within}
use Rattle.scheme.specs.Meaning.{Meaning}
use Rattle.scheme.specs.Sealing.{SealedPair}
use Rattle.plain.specs.Residues.{residues}
use Rattle.split.specs.declared.halves.Halves.{Halves}
use Rattle.split.specs.Shares.{split, Masked}
use Rattle.states.specs.declared.State.{State}
use Rattle.states.specs.declared.State.TheVariants.{Idle}
use Rattle.states.specs.declared.Call.{Call}
use Rattle.states.specs.declared.Call.TheVariants.{Plan as PlanCall, Load, Begin, Advance, Line as LineCall, Restart}
use Rattle.states.specs.declared.Line.{Line}
use Rattle.states.specs.Step.{Pairs, Step}
use Rattle.states.specs.History.{Numbers, plan_after}

-- what a call answered, and the block that it left
pub record After (N : Type 0) : Type 0 where
  pub answer : Result (Option Line) Refusal
  pub block : Pairs N

abbrev pub Answers : Type 0
Answers = List (Result (Option Line) Refusal)

-- the answers of a run alone
abbrev pub answers_of : {N : Type 0} → List (After N) → Answers
answers_of [] = []
answers_of (t ∷ ts) = t.answer ∷ answers_of ts

-- the list of calls runs from a state and a block, each call handed what the last one left; for each there is its answer and the block after it
abbrev pub Run : {N : Type 0} → Meaning N → State → Pairs N → List (Call N) → List (After N) → Type 0
Run m st bl [] [] = Unit {0}
Run m st bl [] (t ∷ ts) = ⊥
Run m st bl (c ∷ cs) [] = ⊥
Run m st bl (c ∷ cs) (t ∷ ts) = (st' : State) × Step m st bl c t.answer st' t.block × Run m st' t.block cs ts

-- the pair that a call brings, where it is an accepted load
abbrev pub loaded : {N : Type 0} → Result (Option Line) Refusal → Call N → Option (N × N)
loaded (Err x) c = None
loaded (Ok r) (PlanCall k size q1 q2) = None
loaded (Ok r) (Load n x) = Some x
loaded (Ok r) Begin = None
loaded (Ok r) Advance = None
loaded (Ok r) (LineCall k) = None
loaded (Ok r) Restart = None

-- there is a plan in force, and the sample lies within its sample scale
abbrev pub InScale : Option Numbers → Complex → Type 0
InScale None z = ⊥
InScale (Some p) z = Within p.sample z

-- one sample where a load was accepted, then the others
abbrev pub SampleFirst : {A : Type 0} → Option A → Option Numbers → (List Complex → Type 0) → List Complex → Type 0
SampleFirst None p others zs = others zs
SampleFirst (Some x) p others [] = ⊥
SampleFirst (Some x) p others (z ∷ zs) = InScale p z × others zs

-- second samples: one for each accepted load, in order, each within the sample scale of the plan in force at that load
abbrev pub SecondSamples : {N : Type 0} → Option Numbers → List (Call N) → Answers → List Complex → Type 0
SecondSamples p [] rs zs = zs ≡ []
SecondSamples p (c ∷ cs) [] zs = zs ≡ []
SecondSamples p (c ∷ cs) (a ∷ rs) zs = SampleFirst (loaded a c) p (SecondSamples (plan_after a c p) cs rs) zs

-- the halves of a number under a mask word: the word, and the residue of what is left
abbrev pub hidden : ℕ → ℤ → ℕ → Halves ℕ
hidden n z w = record { first = w; second = residue (z -ℤ pos w) n }

-- a sample under two mask words, one for each component
abbrev pub hidden_pair : ℕ → Complex → ℕ × ℕ → Halves ℕ × Halves ℕ
hidden_pair n z w = (hidden n z.re w.0, hidden n z.im w.1)

-- the samples, each under its words
abbrev pub hidden_pairs : ℕ → List Complex → List (ℕ × ℕ) → List (Halves ℕ × Halves ℕ)
hidden_pairs n [] ws = []
hidden_pairs n (z ∷ zs) [] = []
hidden_pairs n (z ∷ zs) (w ∷ ws) = hidden_pair n z w ∷ hidden_pairs n zs ws

-- the call, but a load brings this pair
abbrev pub bringing : {N : Type 0} → N × N → Call N → Call N
bringing y (PlanCall k size q1 q2) = PlanCall k size q1 q2
bringing y (Load n x) = Load n y
bringing y Begin = Begin
bringing y Advance = Advance
bringing y (LineCall k) = LineCall k
bringing y Restart = Restart

-- the call, but an accepted load brings the first of the pairs; then the others
abbrev pub replaced_first : {N : Type 0} → Option (N × N) → Call N → (List (N × N) → List (Call N)) → List (N × N) → List (Call N)
replaced_first None c others ys = c ∷ others ys
replaced_first (Some x) c others [] = c ∷ others []
replaced_first (Some x) c others (y ∷ ys) = bringing y c ∷ others ys

-- the same calls, but each accepted load brings the next of the pairs instead
abbrev pub replaced : {N : Type 0} → List (Call N) → Answers → List (N × N) → List (Call N)
replaced [] rs ys = []
replaced (c ∷ cs) [] ys = c ∷ cs
replaced (c ∷ cs) (a ∷ rs) ys = replaced_first (loaded a c) c (replaced cs rs) ys

-- the sample under its words is what the split's seal answers under the limit: both components sealed, the halves those of the mask words
pub record SealedAs (n limit : ℕ) (z : Complex) (w : ℕ × ℕ) : Type 0 where
  pub pair : SealedPair (split (residues n)) limit z w (hidden_pair n z w)
  pub re : Masked (residues n) z.re w.0 (hidden_pair n z w).0
  pub im : Masked (residues n) z.im w.1 (hidden_pair n z w).1

-- there is a plan in force, and the sample is sealed so under its sample scale
abbrev pub SealedUnder : ℕ → Option Numbers → Complex → ℕ × ℕ → Type 0
SealedUnder n None z w = ⊥
SealedUnder n (Some p) z w = SealedAs n p.sample z w

-- one sample and its words where a load was accepted, then the others
abbrev pub SealedFirst : {A : Type 0} → Option A → ℕ → Option Numbers → (List Complex → List (ℕ × ℕ) → Type 0) → List Complex → List (ℕ × ℕ) → Type 0
SealedFirst None n p others zs ws = others zs ws
SealedFirst (Some x) n p others [] ws = ⊥
SealedFirst (Some x) n p others (z ∷ zs) [] = ⊥
SealedFirst (Some x) n p others (z ∷ zs) (w ∷ ws) = SealedUnder n p z w × others zs ws

-- at each accepted load the next sample is sealed with its words, under the sample scale of the plan in force there
abbrev pub AllSealed : {N : Type 0} → ℕ → Option Numbers → List (Call N) → Answers → List Complex → List (ℕ × ℕ) → Type 0
AllSealed n p [] rs zs ws = Unit {0}
AllSealed n p (c ∷ cs) [] zs ws = Unit {0}
AllSealed n p (c ∷ cs) (a ∷ rs) zs ws = SealedFirst (loaded a c) n p (AllSealed n (plan_after a c p) cs rs) zs ws

-- the words lie below n, so that the split takes them
abbrev pub WordsBelow : ℕ → List (ℕ × ℕ) → Type 0
WordsBelow n [] = Unit {0}
WordsBelow n (w ∷ ws) = (w.0 < n) × (w.1 < n) × WordsBelow n ws

-- the half that a house holds: false the first house, true the second
abbrev pub half : Bool → Halves ℕ → ℕ
half false x = x.first
half true x = x.second

-- what a house holds of a pair
abbrev pub halves : Bool → Halves ℕ × Halves ℕ → ℕ × ℕ
halves h x = (half h x.0, half h x.1)

-- the refusal of a declined call
abbrev pub refusal_of : Result (Option Line) Refusal → Option Refusal
refusal_of (Ok r) = None
refusal_of (Err x) = Some x

-- for the house h the two calls are the same: both accepted or declined by the same refusal, and afterwards it holds the same halves of the whole block
pub record SameToHouse (h : Bool) (t u : After (Halves ℕ)) : Type 0 where
  pub declined : refusal_of t.answer ≡ refusal_of u.answer
  pub held : map (halves h) t.block ≡ map (halves h) u.block

-- call by call
abbrev pub AllSame : Bool → List (After (Halves ℕ)) → List (After (Halves ℕ)) → Type 0
AllSame h [] [] = Unit {0}
AllSame h [] (u ∷ us) = ⊥
AllSame h (t ∷ ts) [] = ⊥
AllSame h (t ∷ ts) (u ∷ us) = SameToHouse h t u × AllSame h ts us

-- Sealed with these words, the second samples would have shown the house h the same: the words are taken, the list with what seal then answers
-- has a run from the same block, and every such run is for that house the same as the first.
pub record Indistinguishable (n : ℕ) (h : Bool) (start : Pairs (Halves ℕ)) (cs : List (Call (Halves ℕ))) (ts : List (After (Halves ℕ))) (zs : List Complex) (ws : List (ℕ × ℕ)) : Type 0 where
  pub many : length ws ≡ length zs
  pub below : WordsBelow n ws
  pub sealed : AllSealed n None cs (answers_of ts) zs ws
  pub runs : (us : List (After (Halves ℕ))) × Run (split (residues n)) Idle start (replaced cs (answers_of ts) (hidden_pairs n zs ws)) us
  pub same : (us : List (After (Halves ℕ))) → Run (split (residues n)) Idle start (replaced cs (answers_of ts) (hidden_pairs n zs ws)) us → AllSame h ts us

-- Neither house's numbers tell the samples: for either house, every list of calls on a new window over any block, and any second samples, there are such words.
abbrev pub SecrecyStands : Type 0
SecrecyStands = (n : ℕ) → is_modulus n ≡ true → (h : Bool) (start : Pairs (Halves ℕ)) (cs : List (Call (Halves ℕ))) (ts : List (After (Halves ℕ))) → Run (split (residues n)) Idle start cs ts → (zs : List Complex) → SecondSamples None cs (answers_of ts) zs → (ws : List (ℕ × ℕ)) × Indistinguishable n h start cs ts zs ws
