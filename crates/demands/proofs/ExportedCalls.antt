-- What the contract of each call for C and Rust promises, as theorems that name the call: as in `Calls`, with the numbers of the answer in a
-- lent array. Assumes nothing.
use mathlib.Core.Path.{refl, ap, ap₂}
use mathlib.Core.List.{List}
use Prim.Native.Nat.{ℕ}
use lib.ListN.{length}
use Rattle.folding.specs.Strict.{strict}
use Rattle.folding.specs.Repository.{repository}
use Rattle.folding.specs.Answers.{strict_line, repository_line, fold_answer, fold_out}
use Rattle.quoting.specs.Answers.{quote_answer, quote_out}
use Rattle.escapes.specs.Answers.{text_answer, text_out, value_answer, value_out}
use Rattle.tables.specs.Lent.{Lent}
use Rattle.reading.specs.Answers.{unfold_answer, measuring_of, text_after}
use Rattle.reading.specs.Lent.{read_into, left, fill_from, left_filled}
use Rattle.writing.specs.Answers.{write_answer, write_out}
use Rattle.twins.specs.Answers.{twins_answer, loose_twins_answer}
use Rattle.neighbours.specs.Counts.{neighbours_answer}
use Rattle.exports.specs.Numbers.{reading_numbers, output_numbers, twin_numbers, neighbour_numbers}
use Rattle.exports.specs.Modes.{mode_of}
use Rattle.exports.proofs.hawniretem_unfold.Kinds as unfold_kinds
use Rattle.exports.proofs.hawniretem_unfold.Reads as unfold_reads
use Rattle.exports.proofs.hawniretem_read.Kinds as read_kinds
use Rattle.exports.proofs.hawniretem_read.Reads as read_reads
use Rattle.exports.proofs.hawniretem_measure.Kinds as measure_kinds
use Rattle.exports.proofs.hawniretem_measure.Reads as measure_reads
use Rattle.exports.proofs.hawniretem_fill.Kinds as fill_kinds
use Rattle.exports.proofs.hawniretem_fill.Reads as fill_reads
use Rattle.exports.proofs.hawniretem_fold_strict.Kinds as fold_strict_kinds
use Rattle.exports.proofs.hawniretem_fold_strict.Reads as fold_strict_reads
use Rattle.exports.proofs.hawniretem_fold_line.Kinds as fold_line_kinds
use Rattle.exports.proofs.hawniretem_fold_line.Reads as fold_line_reads
use Rattle.exports.proofs.hawniretem_quote.Kinds as quote_kinds
use Rattle.exports.proofs.hawniretem_quote.Reads as quote_reads
use Rattle.exports.proofs.hawniretem_read_text.Kinds as read_text_kinds
use Rattle.exports.proofs.hawniretem_read_text.Reads as read_text_reads
use Rattle.exports.proofs.hawniretem_write_text.Kinds as write_text_kinds
use Rattle.exports.proofs.hawniretem_write_text.Reads as write_text_reads
use Rattle.exports.proofs.hawniretem_write.Kinds as write_kinds
use Rattle.exports.proofs.hawniretem_write.Reads as write_reads
use Rattle.exports.proofs.hawniretem_twins.Kinds as twins_kinds
use Rattle.exports.proofs.hawniretem_twins.Reads as twins_reads
use Rattle.exports.proofs.hawniretem_loose_twins.Kinds as loose_twins_kinds
use Rattle.exports.proofs.hawniretem_loose_twins.Reads as loose_twins_reads
use Rattle.exports.proofs.hawniretem_neighbours.Kinds as neighbours_kinds
use Rattle.exports.proofs.hawniretem_neighbours.Reads as neighbours_reads
use Rattle.demands.specs.Calls.{Call, Defined, Determined, lent_in, changed_in, filled_in, left_in, tables_in}
use Rattle.demands.proofs.Determined.{determined}

-- `exports::hawniretem_unfold`
abbrev pub hawniretem_unfold : Call
hawniretem_unfold =
    record { lifetimes = 3; parameters = unfold_kinds.ps; result = unfold_kinds.r; asked = unfold_reads.Asked; promised = unfold_reads.Learnt }

pub hawniretem_unfold_is : Defined hawniretem_unfold (λ κs r. r)
    (λ κs a. tt)
    (λ κs a. (tt, (text_after a.0.now a.1.0.now, (output_numbers (unfold_answer a.0.now (length a.1.0.now)), tt))))
hawniretem_unfold_is = record {
  asks_nothing = λ κs a. tt;
  only = λ κs a r x p. record { result_is = refl; exit_is = ap₂ (λ (text numbers : List ℕ). (tt, (text, (numbers, tt)))) p.1 p.0 };
}

pub hawniretem_unfold_determined : Determined hawniretem_unfold (λ κs r. r)
hawniretem_unfold_determined = determined hawniretem_unfold_is

-- `exports::hawniretem_fold_strict`
abbrev pub hawniretem_fold_strict : Call
hawniretem_fold_strict =
    record { lifetimes = 3; parameters = fold_strict_kinds.ps; result = fold_strict_kinds.r; asked = fold_strict_reads.Asked; promised = fold_strict_reads.Learnt }

pub hawniretem_fold_strict_is : Defined hawniretem_fold_strict (λ κs r. r)
    (λ κs a. tt)
    (λ κs a. (tt, (fold_out strict_line strict a.0.now a.1.0.now, (output_numbers (fold_answer strict_line strict a.0.now (length a.1.0.now)), tt))))
hawniretem_fold_strict_is = record {
  asks_nothing = λ κs a. tt;
  only = λ κs a r x p. record { result_is = refl; exit_is = ap₂ (λ (out numbers : List ℕ). (tt, (out, (numbers, tt)))) p.1 p.0 };
}

pub hawniretem_fold_strict_determined : Determined hawniretem_fold_strict (λ κs r. r)
hawniretem_fold_strict_determined = determined hawniretem_fold_strict_is

-- `exports::hawniretem_fold_line`
abbrev pub hawniretem_fold_line : Call
hawniretem_fold_line =
    record { lifetimes = 3; parameters = fold_line_kinds.ps; result = fold_line_kinds.r; asked = fold_line_reads.Asked; promised = fold_line_reads.Learnt }

pub hawniretem_fold_line_is : Defined hawniretem_fold_line (λ κs r. r)
    (λ κs a. tt)
    (λ κs a. (tt, (fold_out repository_line repository a.0.now a.1.0.now, (output_numbers (fold_answer repository_line repository a.0.now (length a.1.0.now)), tt))))
hawniretem_fold_line_is = record {
  asks_nothing = λ κs a. tt;
  only = λ κs a r x p. record { result_is = refl; exit_is = ap₂ (λ (out numbers : List ℕ). (tt, (out, (numbers, tt)))) p.1 p.0 };
}

pub hawniretem_fold_line_determined : Determined hawniretem_fold_line (λ κs r. r)
hawniretem_fold_line_determined = determined hawniretem_fold_line_is

-- `exports::hawniretem_quote`
abbrev pub hawniretem_quote : Call
hawniretem_quote =
    record { lifetimes = 3; parameters = quote_kinds.ps; result = quote_kinds.r; asked = quote_reads.Asked; promised = quote_reads.Learnt }

pub hawniretem_quote_is : Defined hawniretem_quote (λ κs r. r)
    (λ κs a. tt)
    (λ κs a. (tt, (quote_out a.0.now a.1.0.now, (output_numbers (quote_answer a.0.now (length a.1.0.now)), tt))))
hawniretem_quote_is = record {
  asks_nothing = λ κs a. tt;
  only = λ κs a r x p. record { result_is = refl; exit_is = ap₂ (λ (out numbers : List ℕ). (tt, (out, (numbers, tt)))) p.1 p.0 };
}

pub hawniretem_quote_determined : Determined hawniretem_quote (λ κs r. r)
hawniretem_quote_determined = determined hawniretem_quote_is

-- `exports::hawniretem_read_text`
abbrev pub hawniretem_read_text : Call
hawniretem_read_text =
    record { lifetimes = 3; parameters = read_text_kinds.ps; result = read_text_kinds.r; asked = read_text_reads.Asked; promised = read_text_reads.Learnt }

pub hawniretem_read_text_is : Defined hawniretem_read_text (λ κs r. r)
    (λ κs a. tt)
    (λ κs a.
    (tt, (tt, (text_out (mode_of a.0) a.1.0.now a.1.1.0.now, (output_numbers (text_answer (mode_of a.0) a.1.0.now (length a.1.1.0.now)), tt)))))
hawniretem_read_text_is = record {
  asks_nothing = λ κs a. tt;
  only = λ κs a r x p. record { result_is = refl; exit_is = ap₂ (λ (out numbers : List ℕ). (tt, (tt, (out, (numbers, tt))))) p.1 p.0 };
}

pub hawniretem_read_text_determined : Determined hawniretem_read_text (λ κs r. r)
hawniretem_read_text_determined = determined hawniretem_read_text_is

-- `exports::hawniretem_write_text`
abbrev pub hawniretem_write_text : Call
hawniretem_write_text =
    record { lifetimes = 3; parameters = write_text_kinds.ps; result = write_text_kinds.r; asked = write_text_reads.Asked; promised = write_text_reads.Learnt }

pub hawniretem_write_text_is : Defined hawniretem_write_text (λ κs r. r)
    (λ κs a. tt)
    (λ κs a. (tt, (value_out a.0.now a.1.0.now, (output_numbers (value_answer a.0.now (length a.1.0.now)), tt))))
hawniretem_write_text_is = record {
  asks_nothing = λ κs a. tt;
  only = λ κs a r x p. record { result_is = refl; exit_is = ap₂ (λ (out numbers : List ℕ). (tt, (out, (numbers, tt)))) p.1 p.0 };
}

pub hawniretem_write_text_determined : Determined hawniretem_write_text (λ κs r. r)
hawniretem_write_text_determined = determined hawniretem_write_text_is

-- `exports::hawniretem_read`
abbrev pub hawniretem_read : Call
hawniretem_read =
    record { lifetimes = 6; parameters = read_kinds.ps; result = read_kinds.r; asked = read_reads.Asked; promised = read_reads.Learnt }

pub hawniretem_read_is : Defined hawniretem_read (λ κs r. r)
    (λ κs a. tt)
    (λ κs a. (tt, left_in (left a.0.now (changed_in a.1)) (reading_numbers (read_into a.0.now (changed_in a.1)), tt)))
hawniretem_read_is = record {
  asks_nothing = λ κs a. tt;
  only = λ κs a r x p. record { result_is = refl; exit_is = ap₂ (λ (b : Lent) (numbers : List ℕ). (tt, left_in b (numbers, tt))) p.1 p.0 };
}

pub hawniretem_read_determined : Determined hawniretem_read (λ κs r. r)
hawniretem_read_determined = determined hawniretem_read_is

-- `exports::hawniretem_measure`
abbrev pub hawniretem_measure : Call
hawniretem_measure =
    record { lifetimes = 3; parameters = measure_kinds.ps; result = measure_kinds.r; asked = measure_reads.Asked; promised = measure_reads.Learnt }

pub hawniretem_measure_is : Defined hawniretem_measure (λ κs r. r)
    (λ κs a. tt)
    (λ κs a. (tt, (text_after a.0.now a.1.0.now, (reading_numbers (measuring_of a.0.now (length a.1.0.now)), tt))))
hawniretem_measure_is = record {
  asks_nothing = λ κs a. tt;
  only = λ κs a r x p. record { result_is = refl; exit_is = ap₂ (λ (text numbers : List ℕ). (tt, (text, (numbers, tt)))) p.1 p.0 };
}

pub hawniretem_measure_determined : Determined hawniretem_measure (λ κs r. r)
hawniretem_measure_determined = determined hawniretem_measure_is

-- `exports::hawniretem_fill`
abbrev pub hawniretem_fill : Call
hawniretem_fill =
    record { lifetimes = 5; parameters = fill_kinds.ps; result = fill_kinds.r; asked = fill_reads.Asked; promised = fill_reads.Learnt }

pub hawniretem_fill_is : Defined hawniretem_fill (λ κs r. r)
    (λ κs a. tt)
    (λ κs a. (tt, tables_in (left_filled (filled_in a)) (reading_numbers (fill_from (filled_in a)), tt)))
hawniretem_fill_is = record {
  asks_nothing = λ κs a. tt;
  only = λ κs a r x p. record { result_is = refl; exit_is = ap₂ (λ (b : Lent) (numbers : List ℕ). (tt, tables_in b (numbers, tt))) p.1 p.0 };
}

pub hawniretem_fill_determined : Determined hawniretem_fill (λ κs r. r)
hawniretem_fill_determined = determined hawniretem_fill_is

-- `exports::hawniretem_write`
abbrev pub hawniretem_write : Call
hawniretem_write =
    record { lifetimes = 6; parameters = write_kinds.ps; result = write_kinds.r; asked = write_reads.Asked; promised = write_reads.Learnt }

pub hawniretem_write_is : Defined hawniretem_write (λ κs r. r)
    (λ κs a. tt)
    (λ κs a. (tt, (tt, (tt, (tt, (write_out (lent_in a) a.1.1.1.1.0.now, (output_numbers (write_answer (lent_in a) (length a.1.1.1.1.0.now)), tt)))))))
hawniretem_write_is = record {
  asks_nothing = λ κs a. tt;
  only = λ κs a r x p. record { result_is = refl; exit_is = ap₂ (λ (out numbers : List ℕ). (tt, (tt, (tt, (tt, (out, (numbers, tt))))))) p.1 p.0 };
}

pub hawniretem_write_determined : Determined hawniretem_write (λ κs r. r)
hawniretem_write_determined = determined hawniretem_write_is

-- `exports::hawniretem_twins`
abbrev pub hawniretem_twins : Call
hawniretem_twins =
    record { lifetimes = 5; parameters = twins_kinds.ps; result = twins_kinds.r; asked = twins_reads.Asked; promised = twins_reads.Learnt }

pub hawniretem_twins_is : Defined hawniretem_twins (λ κs r. r)
    (λ κs a. tt)
    (λ κs a. (tt, (tt, (tt, (tt, (tt, (tt, (twin_numbers (twins_answer (lent_in a) a.1.1.1.1.0 a.1.1.1.1.1.0), tt))))))))
hawniretem_twins_is = record {
  asks_nothing = λ κs a. tt;
  only = λ κs a r x p. record { result_is = refl; exit_is = ap (λ (numbers : List ℕ). (tt, (tt, (tt, (tt, (tt, (tt, (numbers, tt)))))))) p };
}

pub hawniretem_twins_determined : Determined hawniretem_twins (λ κs r. r)
hawniretem_twins_determined = determined hawniretem_twins_is

-- `exports::hawniretem_loose_twins`
abbrev pub hawniretem_loose_twins : Call
hawniretem_loose_twins =
    record {
      lifetimes = 5;
      parameters = loose_twins_kinds.ps;
      result = loose_twins_kinds.r;
      asked = loose_twins_reads.Asked;
      promised = loose_twins_reads.Learnt;
    }

pub hawniretem_loose_twins_is : Defined hawniretem_loose_twins (λ κs r. r)
    (λ κs a. tt)
    (λ κs a. (tt, (tt, (tt, (tt, (tt, (tt, (twin_numbers (loose_twins_answer (lent_in a) a.1.1.1.1.0 a.1.1.1.1.1.0), tt))))))))
hawniretem_loose_twins_is = record {
  asks_nothing = λ κs a. tt;
  only = λ κs a r x p. record { result_is = refl; exit_is = ap (λ (numbers : List ℕ). (tt, (tt, (tt, (tt, (tt, (tt, (numbers, tt)))))))) p };
}

pub hawniretem_loose_twins_determined : Determined hawniretem_loose_twins (λ κs r. r)
hawniretem_loose_twins_determined = determined hawniretem_loose_twins_is

-- `exports::hawniretem_neighbours`
abbrev pub hawniretem_neighbours : Call
hawniretem_neighbours =
    record {
      lifetimes = 5;
      parameters = neighbours_kinds.ps;
      result = neighbours_kinds.r;
      asked = neighbours_reads.Asked;
      promised = neighbours_reads.Learnt;
    }

pub hawniretem_neighbours_is : Defined hawniretem_neighbours (λ κs r. r)
    (λ κs a. tt)
    (λ κs a. (tt, (tt, (tt, (tt, (tt, (neighbour_numbers (neighbours_answer (lent_in a) a.1.1.1.1.0), tt)))))))
hawniretem_neighbours_is = record {
  asks_nothing = λ κs a. tt;
  only = λ κs a r x p. record { result_is = refl; exit_is = ap (λ (numbers : List ℕ). (tt, (tt, (tt, (tt, (tt, (numbers, tt))))))) p };
}

pub hawniretem_neighbours_determined : Determined hawniretem_neighbours (λ κs r. r)
hawniretem_neighbours_determined = determined hawniretem_neighbours_is
