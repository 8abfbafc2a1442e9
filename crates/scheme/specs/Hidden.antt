-- What hidden numbers and hidden pairs stand for, in each view.
use Rattle.std.specs.Prelude.{◌≡◌, Bool, true, ◌&&◌, ℤ, pos}
use Rattle.integers.specs.declared.Complex.{Complex}
use Rattle.integers.specs.Complex.{complex}
use Rattle.integers.specs.Residue.{residue}
use Rattle.scheme.specs.Meaning.{Meaning, View}

-- x stands for the whole number z in the view v: it is well formed, and what is read is the residue of z
pub record Stands {Number : Type 0} (s : Meaning Number) (v : View) (z : ℤ) (x : Number) : Type 0 where
  pub wf : s.wf x ≡ true
  pub reads : s.reads v x ≡ residue z s.modulus

-- what is read in x in the view v, as a whole number
abbrev pub read : {Number : Type 0} → Meaning Number → View → Number → ℤ
read s v x = pos (s.reads v x)

-- both components of a hidden pair are well formed, as a test
abbrev pub well_formed : {Number : Type 0} → Meaning Number → Number × Number → Bool
well_formed m p = m.wf p.0 && m.wf p.1

-- both components of a hidden pair are well formed
pub record WellFormed {Number : Type 0} (s : Meaning Number) (p : Number × Number) : Type 0 where
  pub re : s.wf p.0 ≡ true
  pub im : s.wf p.1 ≡ true

-- the pair p stands for the complex number z in the view v, component by component
pub record StandsPair {Number : Type 0} (s : Meaning Number) (v : View) (z : Complex) (p : Number × Number) : Type 0 where
  pub re : Stands s v z.re p.0
  pub im : Stands s v z.im p.1

-- what is read in the pair p in the view v
abbrev pub read_pair : {Number : Type 0} → Meaning Number → View → Number × Number → Complex
read_pair s v p = complex (read s v p.0) (read s v p.1)
