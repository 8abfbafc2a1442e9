use Rattle.std.proofs.Common.{◌≡◌, ◌∙◌, ap, ◌++◌, ◌%◌, ◌/◌, rules, List, ℕ, SFits, arith}
use Rattle.std.proofs.lemmas.Int.{ints}
use mir.Syntax.{w128}
use lib.IntN.{nat_abs}
use Rattle.std.specs.Fmt.InlineText.{AppendsIfIntact}
use Rattle.std.specs.Fmt.{WritesInCalls}
use Rattle.report.specs.Decimal.{decimal_text}
use Rattle.report.proofs.Texts.{after_writes, two_digits}
use Rattle.report.proofs.decimal.Decimal.text.Goals as goal

pub returns : goal.returns
returns c =
    let text : List ℕ = decimal_text c.args.self.now in
    let fits : SFits w128 c.args.self.now.hundredths = search rules in
    let size : c.unsigned_abs-size.result ≡ nat_abs c.args.self.now.hundredths = omega (arith, ints) in
    let tens : nat_abs c.args.self.now.hundredths % 100 / 10 ≡ nat_abs c.args.self.now.hundredths / 10 % 10 = omega arith in
    let ones : nat_abs c.args.self.now.hundredths % 100 % 10 ≡ nat_abs c.args.self.now.hundredths % 10 = omega arith in
    let wrote : WritesInCalls AppendsIfIntact c.new-text.result text c.write.new.self = rw (c.sign-sign.ensures, size, c.laid_out.ensures, two_digits (nat_abs c.args.self.now.hundredths % 100) (omega arith), tens, ones) at c.in_ok-write.ensures.writes in
    let full = after_writes _ text _ wrote c.new-text.ensures.intact in
    full.1 ∙ ap (λ (l : List ℕ). l ++ text) c.new-text.ensures.text
