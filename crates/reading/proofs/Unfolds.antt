-- Laws of a feed that is unfolded into a text: what is refused, and what is lent on. Assumes nothing.
use mathlib.Core.Path.{◌≡◌, refl, sym, ap, ◌∙◌}
use mathlib.Core.Bool.{Bool, true, false}
use mathlib.Core.List.{List, ◌++◌}
use Prim.Native.Nat.{ℕ, ◌≤◌, ◌<◌}
use native.Mathlib.Omega.{arith}
use lib.ListN.{length, take, drop}
use lib.Seq.{take-append_seam}
use lib.Dec.{leb}
use borrow.Author.Tests.{le-leb, lt-leb, leb-true}
use Rattle.octets.specs.Choice.{pick}
use Rattle.octets.specs.Laid.{laid}
use Rattle.octets.proofs.Laid.{whole, length_laid}
use Rattle.octets.specs.Answers.{longest, done, no_text_room, too_long, output}
use Rattle.octets.specs.declared.Output.{Output}
use Rattle.unfolding.specs.Unfold.{unfolded}
use Rattle.reading.specs.declared.Reading.{Reading}
use Rattle.reading.specs.Answers.{refusal, unfold_answer, once_unfolded, laid_whole, text_after}

pub text_fits : (bytes old : List ℕ) → length bytes ≤ length old → laid bytes old ≡ laid_whole bytes old
text_fits bytes old h = rw (le-leb (length bytes) (length old) h)

pub text_stays : (bytes old : List ℕ) → length old < length bytes → old ≡ laid_whole bytes old
text_stays bytes old h = rw (lt-leb (length bytes) (length old) h)

length_whole : (bytes old : List ℕ) → length (laid_whole bytes old) ≡ length old
length_whole bytes old = go (leb (length bytes) (length old))
  where
    go : (t : Bool) → length (pick t (laid bytes old) old) ≡ length old
    go true = length_laid bytes old
    go false = refl

module _ (feed old : List ℕ) where
  pub when_too_long : longest < length feed → (output too_long 0 0 ≡ unfold_answer feed (length old)) × (old ≡ text_after feed old)
  unfolding text_after
  when_too_long h = (rw (lt-leb (length feed) longest h), rw (lt-leb (length feed) longest h))

  -- a feed that is short enough was unfolded where it fits
  module _ (short : length feed ≤ longest) (new : List ℕ) (n : ℕ) (count : n ≡ length (unfolded feed)) (is : new ≡ laid_whole (unfolded feed) old) where
    text_left : new ≡ text_after feed old
    unfolding text_after
    text_left = is ∙ rw (le-leb (length feed) longest short)

    as_long : length new ≡ length old
    as_long = ap length is ∙ length_whole (unfolded feed) old

    pub when_no_room : length new < n → (output no_text_room 0 n ≡ unfold_answer feed (length old)) × (new ≡ text_after feed old)
    when_no_room h = (rw (le-leb (length feed) longest short, lt-leb (length (unfolded feed)) (length old) (rw (as_long, count) at h), count), text_left)

    pub all_there : n ≤ length new → (output done 0 n ≡ unfold_answer feed (length old)) × (new ≡ text_after feed old)
    all_there h = (rw (le-leb (length feed) longest short, le-leb (length (unfolded feed)) (length old) (rw (as_long, count) at h), count), text_left)

-- a feed that unfolds to n bytes, and has room for them
pub record Unfolds (feed : List ℕ) (room n : ℕ) : Type 0 where
  pub short : length feed ≤ longest
  pub fits : length (unfolded feed) ≤ room
  pub size : n ≡ length (unfolded feed)

module _ (feed : List ℕ) (room : ℕ) where
  -- a refusal of unfolding is one of the reading, whatever the text would answer
  pub not_unfolded : (x : Reading) {u : Output} → u ≡ unfold_answer feed room → (u.answer ≡ done → ⊥) → refusal u.answer u.place u.length ≡ once_unfolded feed room x
  not_unfolded x e f = rw e (go (leb (length feed) longest) (leb (length (unfolded feed)) room) (rw e at f))
    where
      size : ℕ
      size = length (unfolded feed)

      go : (t v : Bool) →
          let u = pick t (pick v (output done 0 size) (output no_text_room 0 size)) (output too_long 0 0) in
          (u.answer ≡ done → ⊥) → refusal u.answer u.place u.length ≡ pick t (pick v x (refusal no_text_room 0 size)) (refusal too_long 0 0)
      go true true f = absurd (f refl)
      go true false f = refl
      go false v f = refl

  pub was_unfolded : {u : Output} → u ≡ unfold_answer feed room → u.answer ≡ done → Unfolds feed room u.length
  was_unfolded {u} e f = rw e (go (leb (length feed) longest) refl (leb (length (unfolded feed)) room) refl (rw e at f))
    where
      size : ℕ
      size = length (unfolded feed)

      go : (t : Bool) → leb (length feed) longest ≡ t → (v : Bool) → leb size room ≡ v →
          let u = pick t (pick v (output done 0 size) (output no_text_room 0 size)) (output too_long 0 0) in
          u.answer ≡ done → Unfolds feed room u.length
      go true g true h f = record { short = leb-true _ _ g; fits = leb-true _ _ h; size = refl }
      go true g false h f = absurd (omega arith)
      go false g v h f = absurd (omega arith)

  pub text_answers : (x : Reading) {n : ℕ} → Unfolds feed room n → x ≡ once_unfolded feed room x
  text_answers x w = rw (le-leb _ _ w.short, le-leb _ _ w.fits)

length_after : (feed text : List ℕ) → length (text_after feed text) ≡ length text
unfolding text_after
length_after feed text = go (leb (length feed) longest)
  where
    go : (t : Bool) → length (pick t (laid_whole (unfolded feed) text) text) ≡ length text
    go true = length_whole (unfolded feed) text
    go false = refl

-- the unfolded feed stands at the front of the text, which has room for it, and is what is lent on
pub lent_fits : (feed text : List ℕ) {new : List ℕ} {n : ℕ} → Unfolds feed (length text) n → new ≡ text_after feed text → n ≤ length new
lent_fits feed text w e = omega (arith, w.fits, w.size, ap length e, length_after feed text)

pub lent_text : (feed text : List ℕ) {new : List ℕ} {n k : ℕ} → Unfolds feed (length text) n → k ≡ n → new ≡ text_after feed text → take k new ≡ unfolded feed
unfolding text_after
lent_text feed text {new} {n} {k} w is e =
    let l : new ≡ unfolded feed ++ drop (length (unfolded feed)) text =
    e ∙ rw (le-leb _ _ w.short) (sym (text_fits (unfolded feed) text w.fits) ∙ whole (unfolded feed) text w.fits) in
    rw (is, w.size, l) (take-append_seam (unfolded feed) (drop (length (unfolded feed)) text))
