-- What the contract of each public call promises, as theorems that name the call: a contract that lost a clause would break them.
-- A call has three entries here. The call itself is what the prover made of its contract: `Asked` of its `requires`, `Learnt` of all its `ensures`.
-- `-is` says that it asks nothing, and that the result and everything lent at exit are these definitions of the entry: `a.0`, `a.1.0` and so on
-- are the arguments, and the exit has an entry for each of them, `tt` where nothing can change. `-determined` follows by the one law.
-- Assumes nothing.
use mathlib.Core.Path.{refl, ap, ap₂}
use mathlib.Core.List.{List}
use Prim.Native.Nat.{ℕ}
use lib.ListN.{length}
use Rattle.octets.specs.Laid.{laid, counted}
use Rattle.octets.specs.Views.{viewed, viewed_at, bytes_on}
use Rattle.octets.proofs.Writing.{from_front}
use Rattle.octets.proofs.view.Kinds as view_kinds
use Rattle.octets.proofs.view.Reads as view_reads
use Rattle.parameters.specs.Parameter.{front_of}
use Rattle.parameters.proofs.parameter.Kinds as parameter_kinds
use Rattle.parameters.proofs.parameter.Reads as parameter_reads
use Rattle.folding.specs.Strict.{strict}
use Rattle.folding.specs.Repository.{repository}
use Rattle.folding.specs.Answers.{strict_line, repository_line, fold_answer, fold_out}
use Rattle.folding.proofs.fold_strict.Kinds as fold_strict_kinds
use Rattle.folding.proofs.fold_strict.Reads as fold_strict_reads
use Rattle.folding.proofs.fold_line.Kinds as fold_line_kinds
use Rattle.folding.proofs.fold_line.Reads as fold_line_reads
use Rattle.quoting.specs.Answers.{quote_answer, quote_out}
use Rattle.quoting.proofs.quote_special_chars.Kinds as quote_kinds
use Rattle.quoting.proofs.quote_special_chars.Reads as quote_reads
use Rattle.escapes.specs.Answers.{text_answer, text_out, value_answer, value_out}
use Rattle.escapes.proofs.read_text.Kinds as read_text_kinds
use Rattle.escapes.proofs.read_text.Reads as read_text_reads
use Rattle.escapes.proofs.write_text.Kinds as write_text_kinds
use Rattle.escapes.proofs.write_text.Reads as write_text_reads
use Rattle.tables.specs.Lent.{Lent}
use Rattle.reading.specs.Answers.{measuring_of, text_after}
use Rattle.reading.specs.Lent.{read_into, left, fill_from, left_filled}
use Rattle.reading.proofs.read_components.Kinds as read_kinds
use Rattle.reading.proofs.read_components.Reads as read_reads
use Rattle.reading.proofs.measure_components.Kinds as measure_kinds
use Rattle.reading.proofs.measure_components.Reads as measure_reads
use Rattle.reading.proofs.fill_components.Kinds as fill_kinds
use Rattle.reading.proofs.fill_components.Reads as fill_reads
use Rattle.writing.specs.Answers.{write_answer, write_out}
use Rattle.writing.proofs.write_components.Kinds as write_kinds
use Rattle.writing.proofs.write_components.Reads as write_reads
use Rattle.twins.specs.Answers.{twins_answer, loose_twins_answer}
use Rattle.twins.proofs.compare_twins.Kinds as compare_kinds
use Rattle.twins.proofs.compare_twins.Reads as compare_reads
use Rattle.twins.proofs.compare_loose_twins.Kinds as compare_loose_kinds
use Rattle.twins.proofs.compare_loose_twins.Reads as compare_loose_reads
use Rattle.listing.specs.Listing.{listing, left_listed, listing_of}
use Rattle.listing.proofs.list.Kinds as list_kinds
use Rattle.listing.proofs.list.Reads as list_reads
use Rattle.listing.proofs.list_feed.Kinds as list_feed_kinds
use Rattle.listing.proofs.list_feed.Reads as list_feed_reads
use Rattle.demands.specs.Calls.{Call, Defined, Determined, part_of, lent_in, changed_in, filled_in, left_in, tables_in}
use Rattle.demands.proofs.Determined.{determined}

-- ---- calls that are lent nothing to change

-- `octets::view`
abbrev pub view : Call
view = record { lifetimes = 1; parameters = view_kinds.ps; result = view_kinds.r; asked = view_reads.Asked; promised = view_reads.Learnt }

-- the bytes of the part, and their place: that of the text, and so many bytes on
pub view_is : Defined view (λ κs r. part_of r)
    (λ κs a.
    record {
      bytes = viewed a.0.now a.1.0 a.1.1.0;
      place = bytes_on (viewed_at a.0.now a.1.0 a.1.1.0) a.0.ref_ptr;
    })
    (λ κs a. (tt, (tt, (tt, tt))))
view_is = record {
  asks_nothing = λ κs a. tt;
  only = λ κs a r x p. record { result_is = ap₂ (λ (bytes : List ℕ) (place : ℕ × ℕ). record { bytes = bytes; place = place }) p.0 p.1; exit_is = refl };
}

pub view_determined : Determined view (λ κs r. part_of r)
view_determined = determined view_is

-- `parameters::parameter`
abbrev pub parameter : Call
parameter =
    record { lifetimes = 1; parameters = parameter_kinds.ps; result = parameter_kinds.r; asked = parameter_reads.Asked; promised = parameter_reads.Learnt }

pub parameter_is : Defined parameter (λ κs r. r) (λ κs a. front_of a.0.now) (λ κs a. (tt, tt))
parameter_is = record { asks_nothing = λ κs a. tt; only = λ κs a r x p. record { result_is = p; exit_is = refl } }

pub parameter_determined : Determined parameter (λ κs r. r)
parameter_determined = determined parameter_is

-- ---- both folds and quoting

-- `folding::fold_strict`
abbrev pub fold_strict : Call
fold_strict =
    record { lifetimes = 2; parameters = fold_strict_kinds.ps; result = fold_strict_kinds.r; asked = fold_strict_reads.Asked; promised = fold_strict_reads.Learnt }

pub fold_strict_is : Defined fold_strict (λ κs r. r)
    (λ κs a. fold_answer strict_line strict a.0.now (length a.1.0.now))
    (λ κs a. (tt, (fold_out strict_line strict a.0.now a.1.0.now, tt)))
fold_strict_is = record {
  asks_nothing = λ κs a. tt;
  only = λ κs a r x p. record { result_is = p.0; exit_is = ap (λ (out : List ℕ). (tt, (out, tt))) p.1 };
}

pub fold_strict_determined : Determined fold_strict (λ κs r. r)
fold_strict_determined = determined fold_strict_is

-- `folding::fold_line`
abbrev pub fold_line : Call
fold_line =
    record { lifetimes = 2; parameters = fold_line_kinds.ps; result = fold_line_kinds.r; asked = fold_line_reads.Asked; promised = fold_line_reads.Learnt }

pub fold_line_is : Defined fold_line (λ κs r. r)
    (λ κs a. fold_answer repository_line repository a.0.now (length a.1.0.now))
    (λ κs a. (tt, (fold_out repository_line repository a.0.now a.1.0.now, tt)))
fold_line_is = record {
  asks_nothing = λ κs a. tt;
  only = λ κs a r x p. record { result_is = p.0; exit_is = ap (λ (out : List ℕ). (tt, (out, tt))) p.1 };
}

pub fold_line_determined : Determined fold_line (λ κs r. r)
fold_line_determined = determined fold_line_is

-- `quoting::quote_special_chars`
abbrev pub quote_special_chars : Call
quote_special_chars =
    record { lifetimes = 2; parameters = quote_kinds.ps; result = quote_kinds.r; asked = quote_reads.Asked; promised = quote_reads.Learnt }

pub quote_special_chars_is : Defined quote_special_chars (λ κs r. r)
    (λ κs a. quote_answer a.0.now (length a.1.0.now))
    (λ κs a. (tt, (quote_out a.0.now a.1.0.now, tt)))
quote_special_chars_is = record {
  asks_nothing = λ κs a. tt;
  only = λ κs a r x p. record { result_is = p.0; exit_is = ap (λ (out : List ℕ). (tt, (out, tt))) p.1 };
}

pub quote_special_chars_determined : Determined quote_special_chars (λ κs r. r)
quote_special_chars_determined = determined quote_special_chars_is

-- ---- reading and writing of text

-- `escapes::read_text`
abbrev pub read_text : Call
read_text =
    record { lifetimes = 2; parameters = read_text_kinds.ps; result = read_text_kinds.r; asked = read_text_reads.Asked; promised = read_text_reads.Learnt }

pub read_text_is : Defined read_text (λ κs r. r)
    (λ κs a. text_answer a.0 a.1.0.now (length a.1.1.0.now))
    (λ κs a. (tt, (tt, (text_out a.0 a.1.0.now a.1.1.0.now, tt))))
read_text_is = record {
  asks_nothing = λ κs a. tt;
  only = λ κs a r x p. record { result_is = p.0; exit_is = ap (λ (out : List ℕ). (tt, (tt, (out, tt)))) p.1 };
}

pub read_text_determined : Determined read_text (λ κs r. r)
read_text_determined = determined read_text_is

-- `escapes::write_text`
abbrev pub write_text : Call
write_text =
    record { lifetimes = 2; parameters = write_text_kinds.ps; result = write_text_kinds.r; asked = write_text_reads.Asked; promised = write_text_reads.Learnt }

pub write_text_is : Defined write_text (λ κs r. r)
    (λ κs a. value_answer a.0.now (length a.1.0.now))
    (λ κs a. (tt, (value_out a.0.now a.1.0.now, tt)))
write_text_is = record {
  asks_nothing = λ κs a. tt;
  only = λ κs a r x p. record { result_is = p.0; exit_is = ap (λ (out : List ℕ). (tt, (out, tt))) p.1 };
}

pub write_text_determined : Determined write_text (λ κs r. r)
write_text_determined = determined write_text_is

-- ---- the reading in one call and in two, the writer, both twin tests and the listing

-- `reading::read_components`
abbrev pub read_components : Call
read_components =
    record { lifetimes = 5; parameters = read_kinds.ps; result = read_kinds.r; asked = read_reads.Asked; promised = read_reads.Learnt }

pub read_components_is : Defined read_components (λ κs r. r)
    (λ κs a. read_into a.0.now (changed_in a.1))
    (λ κs a. (tt, left_in (left a.0.now (changed_in a.1)) tt))
read_components_is = record {
  asks_nothing = λ κs a. tt;
  only = λ κs a r x p. record { result_is = p.0; exit_is = ap (λ (b : Lent). (tt, left_in b tt)) p.1 };
}

pub read_components_determined : Determined read_components (λ κs r. r)
read_components_determined = determined read_components_is

-- `reading::measure_components`
abbrev pub measure_components : Call
measure_components =
    record { lifetimes = 2; parameters = measure_kinds.ps; result = measure_kinds.r; asked = measure_reads.Asked; promised = measure_reads.Learnt }

pub measure_components_is : Defined measure_components (λ κs r. r)
    (λ κs a. measuring_of a.0.now (length a.1.0.now))
    (λ κs a. (tt, (text_after a.0.now a.1.0.now, tt)))
measure_components_is = record {
  asks_nothing = λ κs a. tt;
  only = λ κs a r x p. record { result_is = p.0; exit_is = ap (λ (text : List ℕ). (tt, (text, tt))) p.1 };
}

pub measure_components_determined : Determined measure_components (λ κs r. r)
measure_components_determined = determined measure_components_is

-- `reading::fill_components`
abbrev pub fill_components : Call
fill_components =
    record { lifetimes = 4; parameters = fill_kinds.ps; result = fill_kinds.r; asked = fill_reads.Asked; promised = fill_reads.Learnt }

pub fill_components_is : Defined fill_components (λ κs r. r)
    (λ κs a. fill_from (filled_in a))
    (λ κs a. (tt, tables_in (left_filled (filled_in a)) tt))
fill_components_is = record {
  asks_nothing = λ κs a. tt;
  only = λ κs a r x p. record { result_is = p.0; exit_is = ap (λ (b : Lent). (tt, tables_in b tt)) p.1 };
}

pub fill_components_determined : Determined fill_components (λ κs r. r)
fill_components_determined = determined fill_components_is

-- `writing::write_components`
abbrev pub write_components : Call
write_components =
    record { lifetimes = 5; parameters = write_kinds.ps; result = write_kinds.r; asked = write_reads.Asked; promised = write_reads.Learnt }

pub write_components_is : Defined write_components (λ κs r. r)
    (λ κs a. write_answer (lent_in a) (length a.1.1.1.1.0.now))
    (λ κs a. (tt, (tt, (tt, (tt, (write_out (lent_in a) a.1.1.1.1.0.now, tt))))))
write_components_is = record {
  asks_nothing = λ κs a. tt;
  only = λ κs a r x p. record { result_is = p.0; exit_is = ap (λ (out : List ℕ). (tt, (tt, (tt, (tt, (out, tt)))))) p.1 };
}

pub write_components_determined : Determined write_components (λ κs r. r)
write_components_determined = determined write_components_is

-- `twins::compare_twins`
abbrev pub compare_twins : Call
compare_twins =
    record { lifetimes = 4; parameters = compare_kinds.ps; result = compare_kinds.r; asked = compare_reads.Asked; promised = compare_reads.Learnt }

pub compare_twins_is : Defined compare_twins (λ κs r. r)
    (λ κs a. twins_answer (lent_in a) a.1.1.1.1.0 a.1.1.1.1.1.0)
    (λ κs a. (tt, (tt, (tt, (tt, (tt, (tt, tt)))))))
compare_twins_is = record { asks_nothing = λ κs a. tt; only = λ κs a r x p. record { result_is = p; exit_is = refl } }

pub compare_twins_determined : Determined compare_twins (λ κs r. r)
compare_twins_determined = determined compare_twins_is

-- `twins::compare_loose_twins`
abbrev pub compare_loose_twins : Call
compare_loose_twins =
    record {
      lifetimes = 4;
      parameters = compare_loose_kinds.ps;
      result = compare_loose_kinds.r;
      asked = compare_loose_reads.Asked;
      promised = compare_loose_reads.Learnt;
    }

pub compare_loose_twins_is : Defined compare_loose_twins (λ κs r. r)
    (λ κs a. loose_twins_answer (lent_in a) a.1.1.1.1.0 a.1.1.1.1.1.0)
    (λ κs a. (tt, (tt, (tt, (tt, (tt, (tt, tt)))))))
compare_loose_twins_is = record { asks_nothing = λ κs a. tt; only = λ κs a r x p. record { result_is = p; exit_is = refl } }

pub compare_loose_twins_determined : Determined compare_loose_twins (λ κs r. r)
compare_loose_twins_determined = determined compare_loose_twins_is

-- `listing::list`
abbrev pub list : Call
list = record { lifetimes = 6; parameters = list_kinds.ps; result = list_kinds.r; asked = list_reads.Asked; promised = list_reads.Learnt }

pub list_is : Defined list (λ κs r. r)
    (λ κs a. counted (length (listing a.0.now (changed_in a.1))))
    (λ κs a. (tt, left_in (left_listed a.0.now (changed_in a.1)) (laid (listing a.0.now (changed_in a.1)) a.1.1.1.1.1.0.now, tt)))
list_is = record {
  asks_nothing = λ κs a. tt;
  only = λ κs a r x p. record { result_is = from_front p.0; exit_is = ap₂ (λ (b : Lent) (out : List ℕ). (tt, left_in b (out, tt))) p.1 p.0.is };
}

pub list_determined : Determined list (λ κs r. r)
list_determined = determined list_is

-- `listing::list_feed`
abbrev pub list_feed : Call
list_feed =
    record { lifetimes = 2; parameters = list_feed_kinds.ps; result = list_feed_kinds.r; asked = list_feed_reads.Asked; promised = list_feed_reads.Learnt }

pub list_feed_is : Defined list_feed (λ κs r. r)
    (λ κs a. counted (length (listing_of a.0.now)))
    (λ κs a. (tt, (laid (listing_of a.0.now) a.1.0.now, tt)))
list_feed_is = record {
  asks_nothing = λ κs a. tt;
  only = λ κs a r x p. record { result_is = from_front p; exit_is = ap (λ (out : List ℕ). (tt, (out, tt))) p.is };
}

pub list_feed_determined : Determined list_feed (λ κs r. r)
list_feed_determined = determined list_feed_is
