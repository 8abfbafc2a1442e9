use Rattle.std.proofs.Common.{◌≡◌, take, string_bytes}
use Rattle.command.specs.Text.{transcript_of}
use Rattle.command.proofs.text.transcript.Given as goal

abbrev pub invariant-loop-answer : goal.invariant-loop-answer
invariant-loop-answer l = string_bytes l.text ≡ transcript_of (take l.answer-index l.answers)
