-- The bytes and words of the line grammar, and how they are found: runs of a class, and BEGIN and END in any case. Assumes nothing.
use mathlib.Core.Path.{◌≡◌, refl, sym, ap, ◌∙◌}
use mathlib.Core.Bool.{Bool, true, false, ◌&&◌, ◌||◌, false≢true}
use mathlib.Core.List.{List, [], ◌∷◌, ◌++◌}
use Prim.Native.Nat.{ℕ, suc, ◌+◌}
use native.Mathlib.Omega.{arith}
use lib.ListN.{length, get_or}
use lib.Dec.{eqb, leb}
use borrow.Author.Tests.{leb-true, eqb-true, eq-eqb}
use Rattle.octets.specs.Choice.{pick}
use Rattle.octets.specs.Bytes.{colon, semicolon, capital, key_byte, lowered}
use Rattle.octets.specs.Runs.{run}
use Rattle.octets.specs.Words.{starts_word}
use Rattle.octets.specs.Keys.{stands_alone, stops_at}
use Rattle.octets.proofs.Runs.{whole_head, whole_tail}
use Rattle.octets.proofs.Bools.{both}
use Rattle.demands.specs.LineGrammar.{Every, AnyCase, no_letter, as_capital, as_small}
use Rattle.demands.proofs.Scanning.{}

-- ---- every byte of a class

pub every_run : (class : ℕ → Bool) (xs : List ℕ) → Every class xs → run class xs ≡ length xs
unfolding run
every_run class [] e = refl
every_run class (x ∷ xs) e = rw e.0 (ap suc (every_run class xs e.1))

pub run_every : (class : ℕ → Bool) (xs : List ℕ) → run class xs ≡ length xs → Every class xs
run_every class [] e = tt
run_every class (x ∷ xs) e = (whole_head class x xs e, run_every class xs (whole_tail class x xs e))

pub every_both : (class : ℕ → Bool) (xs ys : List ℕ) → Every class xs → Every class ys → Every class (xs ++ ys)
every_both class [] ys e f = f
every_both class (x ∷ xs) ys e f = (e.0, every_both class xs ys e.1 f)

pub every_front : (class : ℕ → Bool) (xs ys : List ℕ) → Every class (xs ++ ys) → Every class xs
every_front class [] ys e = tt
every_front class (x ∷ xs) ys e = (e.0, every_front class xs ys e.1)

-- the longest run at the front, and what stands behind it; the end counts as a byte `past` of another class
pub record Split (class : ℕ → Bool) (past : ℕ) (xs : List ℕ) : Type 0 where
  pub front : List ℕ
  pub back : List ℕ
  pub is : xs ≡ front ++ back
  pub size : length front ≡ run class xs
  pub every : Every class front
  pub stops : class (get_or back 0 past) ≡ false

pub split : (class : ℕ → Bool) (past : ℕ) → class past ≡ false → (xs : List ℕ) → Split class past xs
unfolding run
split class past off [] = record { front = []; back = []; is = refl; size = refl; every = tt; stops = off }
split class past off (x ∷ xs) = go (class x) refl (split class past off xs)
  where
    go : (t : Bool) → class x ≡ t → Split class past xs → Split class past (x ∷ xs)
    go true e s = record {
      front = x ∷ s.front;
      back = s.back;
      is = ap (◌∷◌ x) s.is;
      size = rw e (ap suc s.size);
      every = (e, s.every);
      stops = s.stops;
    }
    go false e s = record { front = []; back = x ∷ xs; is = refl; size = rw e; every = tt; stops = e }

-- a list that begins with a byte other than 0
pub begins : (xs : List ℕ) {b : ℕ} → get_or xs 0 0 ≡ suc b → (rest : List ℕ) × (xs ≡ suc b ∷ rest)
begins [] e = absurd (omega arith)
begins (x ∷ xs) e = (xs, ap (λ (y : ℕ). y ∷ xs) e)

-- ---- words in any case

-- the letter that is the same in lower case is the capital or the small one
letter : (w x : ℕ) {ws xs : List ℕ} → capital w ≡ true → lowered x ≡ lowered w → AnyCase ws xs → AnyCase (w ∷ ws) (x ∷ xs)
letter w x {ws} {xs} c e a = go (capital x) refl (rw c at e)
  where
    go : (t : Bool) → capital x ≡ t → pick t (x + 32) x ≡ w + 32 → AnyCase (w ∷ ws) (x ∷ xs)
    go true p q = let same : x ≡ w = omega arith in rw same (as_capital a)
    go false p q = rw q (as_small a)

pub lowered_capital : (w : ℕ) → capital w ≡ true → lowered w ≡ w + 32
lowered_capital w c = rw c

-- a small letter is no capital
pub lowered_small : (w : ℕ) → capital w ≡ true → lowered (w + 32) ≡ w + 32
lowered_small w c = go (leb 65 (w + 32)) (leb (w + 32) 90) refl
  where
    go : (s t : Bool) → leb (w + 32) 90 ≡ t → pick (s && t) (w + 32 + 32) (w + 32) ≡ w + 32
    go true true p = absurd (omega (arith, leb-true (w + 32) 90 p, leb-true 65 w (both (leb 65 w) _ c).0))
    go true false p = refl
    go false t p = refl

-- where a word of capitals stands at the front, its letters stand there in any case
pub record Word (ws line : List ℕ) : Type 0 where
  pub word : List ℕ
  pub rest : List ℕ
  pub letters : AnyCase ws word
  pub is : line ≡ word ++ rest

pub word_found : (ws tail line : List ℕ) → Every capital ws → starts_word (ws ++ tail) line ≡ true → (w : Word ws line) × (starts_word tail w.rest ≡ true)
unfolding starts_word
word_found [] tail line c e = (record { word = []; rest = line; letters = no_letter; is = refl }, e)
word_found (w ∷ ws) tail [] c e = absurd (false≢true e)
word_found (w ∷ ws) tail (x ∷ line) c e =
    let b = both (eqb (lowered x) (lowered w)) _ e in
    go (eqb-true (lowered x) (lowered w) b.0) (word_found ws tail line c.1 b.1)
  where
    go : lowered x ≡ lowered w → (v : Word ws line) × (starts_word tail v.rest ≡ true) → (v : Word (w ∷ ws) (x ∷ line)) × (starts_word tail v.rest ≡ true)
    go l (v, s) = (record { word = x ∷ v.word; rest = v.rest; letters = letter w x c.0 l v.letters; is = ap (◌∷◌ x) v.is }, s)

-- and the other way round
pub word_starts : {ws word : List ℕ} (tail rest : List ℕ) → Every capital ws → AnyCase ws word → starts_word (ws ++ tail) (word ++ rest) ≡ starts_word tail rest
unfolding starts_word
word_starts tail rest c no_letter = refl
word_starts tail rest c (as_capital {w = w} a) = rw (eq-eqb (lowered w) (lowered w) refl) (word_starts tail rest c.1 a)
word_starts tail rest c (as_small {w = w} a) =
    rw (lowered_small w c.0, lowered_capital w c.0, eq-eqb (w + 32) (w + 32) refl) (word_starts tail rest c.1 a)

pub word_length : {ws word : List ℕ} → AnyCase ws word → length word ≡ length ws
word_length no_letter = refl
word_length (as_capital a) = ap suc (word_length a)
word_length (as_small a) = ap suc (word_length a)

-- a colon stands behind it
pub colon_found : (rest : List ℕ) → starts_word (colon ∷ []) rest ≡ true → (name : List ℕ) × (rest ≡ colon ∷ name)
unfolding starts_word
colon_found [] e = absurd (false≢true e)
colon_found (x ∷ rest) e = (rest, ap (λ (y : ℕ). y ∷ rest) (go (capital x) refl (eqb-true (lowered x) colon (both (eqb (lowered x) colon) _ e).0)))
  where
    go : (t : Bool) → capital x ≡ t → pick t (x + 32) x ≡ colon → x ≡ colon
    go true p q = absurd (omega (arith, leb-true 65 x (both (leb 65 x) _ p).0))
    go false p q = q

-- ---- a key that is a word

-- a key that is the word in any case stands alone in it
pub word_alone : {ws key : List ℕ} → Every capital ws → AnyCase ws key → stands_alone ws key ≡ true
unfolding starts_word
word_alone c no_letter = refl
word_alone c (as_capital {w = w} a) = rw (eq-eqb (lowered w) (lowered w) refl) (word_alone c.1 a)
word_alone c (as_small {w = w} a) = rw (lowered_small w c.0, lowered_capital w c.0, eq-eqb (w + 32) (w + 32) refl) (word_alone c.1 a)

-- and where it stands alone, the key is the word: no key byte is `:` or `;`
pub alone_word : (ws key : List ℕ) → Every capital ws → Every key_byte key → stands_alone ws key ≡ true → AnyCase ws key
unfolding starts_word
alone_word [] [] c k e = no_letter
alone_word [] (x ∷ key) c k e = absurd (go (eqb x colon) (eqb x semicolon) refl refl e)
  where
    go : (s t : Bool) → eqb x colon ≡ s → eqb x semicolon ≡ t → s || t ≡ true → ⊥
    go true t p q r = false≢true (sym (ap key_byte (eqb-true x colon p)) ∙ k.0)
    go false true p q r = false≢true (sym (ap key_byte (eqb-true x semicolon q)) ∙ k.0)
    go false false p q r = false≢true r
alone_word (w ∷ ws) [] c k e = absurd (false≢true e)
alone_word (w ∷ ws) (x ∷ key) c k e = go (eqb (lowered x) (lowered w)) refl e (alone_word ws key c.1 k.1)
  where
    go : (t : Bool) → eqb (lowered x) (lowered w) ≡ t → (t && starts_word ws key) && stops_at (length ws) key ≡ true
        → (stands_alone ws key ≡ true → AnyCase ws key) → AnyCase (w ∷ ws) (x ∷ key)
    go true p q ih = letter w x c.0 (eqb-true (lowered x) (lowered w) p) (ih q)
    go false p q ih = absurd (false≢true q)
