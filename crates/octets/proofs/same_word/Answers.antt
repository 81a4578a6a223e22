-- One turn compares a letter, and then what is left.
use Rattle.std.proofs.Common.{sym, ap, ◌∙◌, ◌+◌, drop, arith}
use mathlib.Core.Bool.{Bool, ◌&&◌}
use Rattle.octets.specs.Words.{same_word}
use Rattle.octets.proofs.Words.{unlike_word, word_rest, word_turn, word_ended}
use Rattle.octets.proofs.same_word.Goals as goal

pub returns-then-a-b : goal.returns-then-a-b
returns-then-a-b c = sym (unlike_word c.args.a.now c.args.b.now c.if-a-b.true)

pub loop-i-init : goal.loop-i-init
loop-i-init c = word_rest c.args.a.now c.args.b.now c.same_eights-i.result c.same_eights-i.ensures.same_so_far.1

pub returns-then-not-same_letter : goal.returns-then-not-same_letter
returns-then-not-same_letter c =
    let a = c.args.a.now in
    let b = c.args.b.now in
    let i = c.loop-i.i in
    ap (λ (t : Bool). t && same_word (drop (i + 1) a) (drop (i + 1) b)) (sym c.if-not-same_letter.true ∙ c.same_letter.ensures)
    ∙ (sym (word_turn a b i (omega arith) (omega arith)) ∙ c.loop-i.invariant)

pub loop-i-preserved : goal.loop-i-preserved
loop-i-preserved c =
    let a = c.args.a.now in
    let b = c.args.b.now in
    let i = c.loop-i.i in
    ap (λ (t : Bool). t && same_word (drop (i + 1) a) (drop (i + 1) b)) (sym c.if-not-same_letter.false ∙ c.same_letter.ensures)
    ∙ (sym (word_turn a b i (omega arith) (omega arith)) ∙ c.loop-i.invariant)

pub returns : goal.returns
returns c = sym (word_ended c.args.a.now c.args.b.now c.loop-i.i (omega arith) (omega arith)) ∙ c.loop-i.invariant
