-- What a residue system means as a scheme.
use Rattle.std.specs.Prelude.{nat_lt}
use Rattle.scheme.specs.Meaning.{Meaning}
use Rattle.system.specs.declared.residues.Residues.{Residues}
use Rattle.system.specs.declared.residues.System.{System}
use Rattle.system.specs.Hidden.{product, formed, hidden}

-- the modulus is the product of the three; the mask words are those below it; residues below their moduli are well formed, and the
-- one number that leaves them is read in every view
abbrev pub meant : System → Meaning Residues
meant s = record { modulus = product s; takes = λ w. nat_lt w (product s); wf = formed s; reads = λ v x. hidden s x }
