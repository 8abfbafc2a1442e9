-- Complex whole numbers: sum, difference, opposite, product, the factor −j.
-- The components here are whole numbers of any size; the struct of the code holds those that fit 64 bits.
use Rattle.std.specs.Prelude.{ℤ, pos, ◌+ℤ◌, ◌-ℤ◌, ◌*ℤ◌, neg_ℤ}
use Rattle.integers.specs.declared.Complex.{Complex}

infixl 6 ◌⊕◌ ◌⊖◌
infixl 7 ◌⊗◌
infixr 7 ◌⊙◌
-- the complex number re + j·im
abbrev pub complex : ℤ → ℤ → Complex
complex a b = record { re = a; im = b }

abbrev pub ◌⊕◌ : Complex → Complex → Complex
x ⊕ y = complex (x.re +ℤ y.re) (x.im +ℤ y.im)

abbrev pub ◌⊖◌ : Complex → Complex → Complex
x ⊖ y = complex (x.re -ℤ y.re) (x.im -ℤ y.im)

-- (a + jb)(c + jd) = (ac − bd) + j(ad + bc)
abbrev pub ◌⊗◌ : Complex → Complex → Complex
x ⊗ y = complex (x.re *ℤ y.re -ℤ x.im *ℤ y.im) (x.re *ℤ y.im +ℤ x.im *ℤ y.re)

-- a whole number as a complex one
abbrev pub real : ℤ → Complex
real a = complex a (pos 0)

-- the factor −j: (a + jb)(−j) = b − ja
abbrev pub quarter_turn_of : Complex → Complex
quarter_turn_of x = complex x.im (neg_ℤ x.re)

-- the multiple by a whole number
abbrev pub ◌⊙◌ : ℤ → Complex → Complex
a ⊙ x = complex (a *ℤ x.re) (a *ℤ x.im)
