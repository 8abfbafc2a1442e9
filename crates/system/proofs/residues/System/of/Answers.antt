use Rattle.std.proofs.Common.{◌≡◌, rules}
use Rattle.system.specs.Moduli.{Lawful, Coprime}
use Rattle.system.proofs.residues.System.of.Goals as goal

pub returns-in_err-first_to_second : goal.returns-in_err-first_to_second
returns-in_err-first_to_second c =
    let p : c.in_ok-first.first.modulus.n ≡ c.args.first = search rules in
    let q : c.in_ok-second.second.modulus.n ≡ c.args.second = search rules in
    let h : Coprime c.args.first c.args.second → ⊥ = simp (p, q) at c.in_err-first_to_second.ensures in
    let none : Lawful c.args.first c.args.second c.args.third → ⊥ = λ l. h l.one_two in
    search (rules, none)

pub returns-in_err-first_to_third : goal.returns-in_err-first_to_third
returns-in_err-first_to_third c =
    let p : c.in_ok-first.first.modulus.n ≡ c.args.first = search rules in
    let r : c.in_ok-third.third.modulus.n ≡ c.args.third = search rules in
    let h : Coprime c.args.first c.args.third → ⊥ = simp (p, r) at c.in_err-first_to_third.ensures in
    let none : Lawful c.args.first c.args.second c.args.third → ⊥ = λ l. h l.one_three in
    search (rules, none)

pub returns-in_err-second_to_third : goal.returns-in_err-second_to_third
returns-in_err-second_to_third c =
    let q : c.in_ok-second.second.modulus.n ≡ c.args.second = search rules in
    let r : c.in_ok-third.third.modulus.n ≡ c.args.third = search rules in
    let h : Coprime c.args.second c.args.third → ⊥ = simp (q, r) at c.in_err-second_to_third.ensures in
    let none : Lawful c.args.first c.args.second c.args.third → ⊥ = λ l. h l.two_three in
    search (rules, none)

pub returns : goal.returns
returns c =
    let p : c.in_ok-first.first.modulus.n ≡ c.args.first = search rules in
    let q : c.in_ok-second.second.modulus.n ≡ c.args.second = search rules in
    let r : c.in_ok-third.third.modulus.n ≡ c.args.third = search rules in
    record {
      lawful = record {
        one = c.in_ok-first.ensures.0;
        two = c.in_ok-second.ensures.0;
        three = c.in_ok-third.ensures.0;
        one_two = simp (p, q) at c.in_ok-first_to_second.ensures.coprime;
        one_three = simp (p, r) at c.in_ok-first_to_third.ensures.coprime;
        two_three = simp (q, r) at c.in_ok-second_to_third.ensures.coprime;
      };
      one = p;
      two = q;
      three = r;
    }
