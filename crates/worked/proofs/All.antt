-- The worked cases hold, each table by one computed claim: no case of it is wrong. Assumes nothing.
use mathlib.Core.Path.{◌≡◌, refl}
use mathlib.Core.List.{[]}
use Rattle.octets.specs.Literals.{bytes}
use Rattle.octets.specs.Runs.{run}
use Rattle.octets.specs.Words.{same_bytes, starts_word}
use Rattle.unfolding.specs.Unfold.{unfolded_after}
use Rattle.parameters.specs.Values.{quoted_len, further_after, form_of}
use Rattle.parameters.specs.Parameter.{param_of, front_of}
use Rattle.parameters.specs.Parameters.{params_after, params_used}
use Rattle.lines.specs.Split.{lines_after}
use Rattle.lines.specs.Rule.{line_of}
use Rattle.tables.specs.Rows.{tabulate, flat}
use Rattle.tables.specs.TableRule.{broken, first_broken, out_from}
use Rattle.tables.specs.Trees.{gather, forest}
use Rattle.nesting.specs.Steps as steps
use Rattle.reading.specs.Answers.{reading_of, measuring_of, filling_of, text_after}
use Rattle.folding.specs.Pieces as pieces
use Rattle.characters.specs.Units.{units_from}
use Rattle.characters.specs.Utf8.{sound_len}
use Rattle.folding.specs.Strict.{folded_units}
use Rattle.folding.specs.Repository.{cuts}
use Rattle.escapes.specs.Text.{fine, text_of, as_value}
use Rattle.writable.specs.WritingRule.{judged_from, judged_in}
use Rattle.printing.specs.Lines.{parameters_text, property_lines, written}
use Rattle.writing.specs.Answers.{write_answer}
use Rattle.comparing.specs.Multisets.{many_of, as_often}
use Rattle.matching.specs.Alike as matching
use Rattle.twins.specs.Answers.{compared_by}
use Rattle.neighbours.specs.Counts.{repeats, neighbours_answer}
use Rattle.worked.specs.Cases.{rising, turning, repeated, nested, comes_true, wrong}
use Rattle.worked.specs.Reading as reading
use Rattle.worked.specs.ReadingRoom as reading_room
use Rattle.worked.specs.ReadingRefused as reading_refused
use Rattle.worked.specs.Pair as pair
use Rattle.worked.specs.Folding as folding
use Rattle.worked.specs.Quoting as quoting
use Rattle.worked.specs.Texts as texts
use Rattle.worked.specs.Writing as writing
use Rattle.worked.specs.WritingRefused as writing_refused
use Rattle.worked.specs.Twins as twins
use Rattle.worked.specs.LooseTwins as loose_twins
use Rattle.worked.specs.Parts as parts

-- ---- readings that are Done (answer 0): raw words of the rows, the text in front, and what stands behind both

pub components : wrong reading.components ≡ []
unfolding bytes comes_true wrong rising turning unfolded_after same_bytes starts_word run quoted_len further_after form_of param_of front_of params_after params_used
    lines_after line_of flat steps.read_lines steps.outcome_of reading_of text_after
components = refl

pub properties : wrong reading.properties ≡ []
unfolding bytes comes_true wrong rising turning unfolded_after same_bytes starts_word run quoted_len further_after form_of param_of front_of params_after params_used
    lines_after line_of flat steps.read_lines steps.outcome_of reading_of text_after
properties = refl

pub owners : wrong reading.owners ≡ []
unfolding bytes comes_true wrong rising turning unfolded_after same_bytes starts_word run quoted_len further_after form_of param_of front_of params_after params_used
    lines_after line_of flat steps.read_lines steps.outcome_of reading_of text_after
owners = refl

pub parameters : wrong reading.parameters ≡ []
unfolding bytes comes_true wrong rising turning unfolded_after same_bytes starts_word run quoted_len further_after form_of param_of front_of params_after params_used
    lines_after line_of flat steps.read_lines steps.outcome_of reading_of text_after
parameters = refl

pub keys : wrong reading.keys ≡ []
unfolding bytes comes_true wrong rising turning unfolded_after same_bytes starts_word run quoted_len further_after form_of param_of front_of params_after params_used
    lines_after line_of flat steps.read_lines steps.outcome_of reading_of text_after
keys = refl

-- ---- readings and room: too little text (2), too few rows (10), just enough, and more than is asked for

pub when_no_text_room : wrong reading_room.no_text_room_cases ≡ []
unfolding bytes comes_true wrong rising turning unfolded_after same_bytes starts_word run quoted_len further_after form_of param_of front_of params_after params_used
    lines_after line_of flat steps.read_lines steps.outcome_of reading_of text_after
when_no_text_room = refl

pub when_no_room : wrong reading_room.no_room_cases ≡ []
unfolding bytes comes_true wrong rising turning unfolded_after same_bytes starts_word run quoted_len further_after form_of param_of front_of params_after params_used
    lines_after line_of flat steps.read_lines steps.outcome_of reading_of text_after
when_no_room = refl

pub just_enough_holds : wrong reading_room.just_enough ≡ []
unfolding bytes comes_true wrong rising turning unfolded_after same_bytes starts_word run quoted_len further_after form_of param_of front_of params_after params_used
    lines_after line_of flat steps.read_lines steps.outcome_of reading_of text_after
just_enough_holds = refl

-- ---- readings that are refused for a line (3 to 7, 17, 18) or at the end of the text (8, 9). The text is in front, and the tables stay

pub bad_begin : wrong reading_refused.bad_begin_cases ≡ []
unfolding bytes comes_true wrong rising turning unfolded_after same_bytes starts_word run quoted_len further_after form_of param_of front_of params_after params_used
    lines_after line_of flat steps.read_lines steps.outcome_of reading_of text_after
bad_begin = refl

pub too_deep : wrong reading_refused.too_deep_cases ≡ []
unfolding bytes comes_true wrong repeated nested rising turning unfolded_after same_bytes starts_word run quoted_len further_after form_of param_of front_of
    params_after params_used lines_after line_of flat steps.read_lines steps.outcome_of reading_of text_after
too_deep = refl

pub bad_end : wrong reading_refused.bad_end_cases ≡ []
unfolding bytes comes_true wrong rising turning unfolded_after same_bytes starts_word run quoted_len further_after form_of param_of front_of params_after params_used
    lines_after line_of flat steps.read_lines steps.outcome_of reading_of text_after
bad_end = refl

pub outside : wrong reading_refused.outside_cases ≡ []
unfolding bytes comes_true wrong rising turning unfolded_after same_bytes starts_word run quoted_len further_after form_of param_of front_of params_after params_used
    lines_after line_of flat steps.read_lines steps.outcome_of reading_of text_after
outside = refl

pub reserved_key : wrong reading_refused.reserved_key_cases ≡ []
unfolding bytes comes_true wrong rising turning unfolded_after same_bytes starts_word run quoted_len further_after form_of param_of front_of params_after params_used
    lines_after line_of flat steps.read_lines steps.outcome_of reading_of text_after
reserved_key = refl

pub empty_key : wrong reading_refused.empty_key_cases ≡ []
unfolding bytes comes_true wrong rising turning unfolded_after same_bytes starts_word run quoted_len further_after form_of param_of front_of params_after params_used
    lines_after line_of flat steps.read_lines steps.outcome_of reading_of text_after
empty_key = refl

pub stray_byte_holds : wrong reading_refused.stray_byte_cases ≡ []
unfolding bytes comes_true wrong rising turning unfolded_after same_bytes starts_word run quoted_len further_after form_of param_of front_of params_after params_used
    lines_after line_of flat steps.read_lines steps.outcome_of reading_of text_after
stray_byte_holds = refl

pub unclosed : wrong reading_refused.unclosed_cases ≡ []
unfolding bytes comes_true wrong rising turning unfolded_after same_bytes starts_word run quoted_len further_after form_of param_of front_of params_after params_used
    lines_after line_of flat steps.read_lines steps.outcome_of reading_of text_after
unclosed = refl

pub no_component : wrong reading_refused.no_component_cases ≡ []
unfolding bytes comes_true wrong rising turning unfolded_after same_bytes starts_word run quoted_len further_after form_of param_of front_of params_after params_used
    lines_after line_of flat steps.read_lines steps.outcome_of reading_of text_after
no_component = refl

-- ---- reading in two calls: measuring, which is lent no table and never gives 10, and filling, which never gives 2 and leaves the text

pub measured : wrong pair.measured ≡ []
unfolding bytes comes_true wrong repeated turning unfolded_after same_bytes starts_word run quoted_len further_after form_of param_of front_of params_after params_used
    lines_after line_of steps.read_lines steps.outcome_of measuring_of text_after
measured = refl

pub filled : wrong pair.filled ≡ []
unfolding bytes comes_true wrong repeated rising same_bytes starts_word run quoted_len further_after form_of param_of front_of params_after params_used lines_after
    line_of flat steps.read_lines steps.outcome_of filling_of
filled = refl

-- ---- the two folds: Done (0), an LF (11), a byte of 128 or more (12), an ill-formed character (19), too little room (13), and their order

pub strictly : wrong folding.strictly ≡ []
unfolding bytes comes_true wrong turning same_bytes run pieces.behind_breaks units_from sound_len folded_units cuts
strictly = refl

pub refused_strictly_holds : wrong folding.refused_strictly ≡ []
unfolding bytes comes_true wrong turning same_bytes run pieces.behind_breaks units_from sound_len folded_units cuts
refused_strictly_holds = refl

pub with_accents_holds : wrong folding.with_accents ≡ []
unfolding bytes comes_true wrong turning same_bytes run pieces.behind_breaks units_from sound_len folded_units cuts
with_accents_holds = refl

pub across_the_cut_holds : wrong folding.across_the_cut ≡ []
unfolding bytes comes_true wrong turning same_bytes run pieces.behind_breaks units_from sound_len folded_units cuts
across_the_cut_holds = refl

pub ill_formed_holds : wrong folding.ill_formed ≡ []
unfolding bytes comes_true wrong turning same_bytes run pieces.behind_breaks units_from sound_len folded_units cuts
ill_formed_holds = refl

pub as_repository_holds : wrong folding.as_repository ≡ []
unfolding bytes comes_true wrong turning same_bytes run pieces.behind_breaks units_from sound_len folded_units cuts
as_repository_holds = refl

pub at_the_cut_holds : wrong folding.at_the_cut ≡ []
unfolding bytes comes_true wrong turning same_bytes run pieces.behind_breaks units_from sound_len folded_units cuts
at_the_cut_holds = refl

pub refused_as_repository_holds : wrong folding.refused_as_repository ≡ []
unfolding bytes comes_true wrong turning same_bytes run pieces.behind_breaks units_from sound_len folded_units cuts
refused_as_repository_holds = refl

-- ---- quoting: left, wrapped, and too little room (13)

pub quoted : wrong quoting.quotings ≡ []
unfolding bytes comes_true wrong turning same_bytes run
quoted = refl

pub too_short_holds : wrong quoting.too_short ≡ []
unfolding bytes comes_true wrong turning same_bytes run
too_short_holds = refl

-- ---- escaped text: values read in both modes, bad escapes (16), too little room (13), and texts written

pub strict_text : wrong texts.strict_text_cases ≡ []
unfolding bytes comes_true wrong turning same_bytes fine text_of as_value
strict_text = refl

pub plain_text : wrong texts.plain_text_cases ≡ []
unfolding bytes comes_true wrong turning same_bytes fine text_of as_value
plain_text = refl

pub second_mode : wrong texts.second_mode_cases ≡ []
unfolding bytes comes_true wrong turning same_bytes fine text_of as_value
second_mode = refl

pub bad_escape : wrong texts.bad_escape_cases ≡ []
unfolding bytes comes_true wrong turning same_bytes fine text_of as_value
bad_escape = refl

pub text_room : wrong texts.text_room_cases ≡ []
unfolding bytes comes_true wrong turning same_bytes fine text_of as_value
text_room = refl

pub written_text : wrong texts.written_text_cases ≡ []
unfolding bytes comes_true wrong turning same_bytes fine text_of as_value
written_text = refl

pub written_room : wrong texts.written_room_cases ≡ []
unfolding bytes comes_true wrong turning same_bytes fine text_of as_value
written_room = refl

-- ---- what is written (answer 0) for tables made by hand, and too little room for it (13)

pub lines : wrong writing.lines ≡ []
unfolding bytes comes_true wrong turning same_bytes starts_word run quoted_len further_after form_of tabulate broken first_broken out_from gather forest
    units_from sound_len folded_units judged_from judged_in parameters_text property_lines written write_answer
lines = refl

pub accents : wrong writing.accents ≡ []
unfolding bytes comes_true wrong turning same_bytes starts_word run quoted_len further_after form_of tabulate broken first_broken out_from gather forest
    units_from sound_len folded_units judged_from judged_in parameters_text property_lines written write_answer
accents = refl

pub trees : wrong writing.trees ≡ []
unfolding bytes comes_true wrong turning same_bytes starts_word run quoted_len further_after form_of tabulate broken first_broken out_from gather forest
    units_from sound_len folded_units judged_from judged_in parameters_text property_lines written write_answer
trees = refl

pub no_out_room : wrong writing.no_out_room_cases ≡ []
unfolding bytes comes_true wrong turning same_bytes starts_word run quoted_len further_after form_of tabulate broken first_broken out_from gather forest
    units_from sound_len folded_units judged_from judged_in parameters_text property_lines written write_answer
no_out_room = refl

-- ---- what the writer refuses: 14 by the table rule, 15 and 19 by the writing rule, with the row, and their order. The buffer stays

pub broken_components_holds : wrong writing_refused.broken_components ≡ []
unfolding bytes comes_true wrong turning same_bytes starts_word run quoted_len further_after form_of tabulate broken first_broken out_from gather forest
    units_from sound_len folded_units judged_from judged_in parameters_text property_lines written write_answer
broken_components_holds = refl

pub broken_parents_holds : wrong writing_refused.broken_parents ≡ []
unfolding bytes comes_true wrong repeated nested turning same_bytes starts_word run quoted_len further_after form_of tabulate broken first_broken out_from gather
    forest units_from sound_len folded_units judged_from judged_in parameters_text property_lines written write_answer
broken_parents_holds = refl

pub broken_properties_holds : wrong writing_refused.broken_properties ≡ []
unfolding bytes comes_true wrong turning same_bytes starts_word run quoted_len further_after form_of tabulate broken first_broken out_from gather forest
    units_from sound_len folded_units judged_from judged_in parameters_text property_lines written write_answer
broken_properties_holds = refl

pub unwritable_names_holds : wrong writing_refused.unwritable_names ≡ []
unfolding bytes comes_true wrong turning same_bytes starts_word run quoted_len further_after form_of tabulate broken first_broken out_from gather forest
    units_from sound_len folded_units judged_from judged_in parameters_text property_lines written write_answer
unwritable_names_holds = refl

pub unwritable_values_holds : wrong writing_refused.unwritable_values ≡ []
unfolding bytes comes_true wrong turning same_bytes starts_word run quoted_len further_after form_of tabulate broken first_broken out_from gather forest
    units_from sound_len folded_units judged_from judged_in parameters_text property_lines written write_answer
unwritable_values_holds = refl

pub not_utf8 : wrong writing_refused.not_utf8_cases ≡ []
unfolding bytes comes_true wrong turning same_bytes starts_word run quoted_len further_after form_of tabulate broken first_broken out_from gather forest
    units_from sound_len folded_units judged_from judged_in parameters_text property_lines written write_answer
not_utf8 = refl

pub in_order : wrong writing_refused.in_turn ≡ []
unfolding bytes comes_true wrong turning same_bytes starts_word run quoted_len further_after form_of tabulate broken first_broken out_from gather forest
    units_from sound_len folded_units judged_from judged_in parameters_text property_lines written write_answer
in_order = refl

-- ---- the twin test: twins (1), no twins (0), 14 by the table rule, 14 by a row number, and their order

pub alike : wrong twins.alike_cases ≡ []
unfolding bytes comes_true wrong same_bytes tabulate broken first_broken out_from gather forest many_of as_often matching.alike matching.same_trees_by compared_by
alike = refl

pub any_case_or_order_holds : wrong twins.any_case_or_order ≡ []
unfolding bytes comes_true wrong same_bytes tabulate broken first_broken out_from gather forest many_of as_often matching.alike matching.same_trees_by compared_by
any_case_or_order_holds = refl

pub other_multiset_holds : wrong twins.other_multiset ≡ []
unfolding bytes comes_true wrong same_bytes tabulate broken first_broken out_from gather forest many_of as_often matching.alike matching.same_trees_by compared_by
other_multiset_holds = refl

pub unlike : wrong twins.unlike ≡ []
unfolding bytes comes_true wrong same_bytes tabulate broken first_broken out_from gather forest many_of as_often matching.alike matching.same_trees_by compared_by
unlike = refl

pub other_shape_holds : wrong twins.other_shape ≡ []
unfolding bytes comes_true wrong same_bytes tabulate broken first_broken out_from gather forest many_of as_often matching.alike matching.same_trees_by compared_by
other_shape_holds = refl

pub broken_rows_holds : wrong twins.broken_rows ≡ []
unfolding bytes comes_true wrong same_bytes tabulate broken first_broken out_from gather forest many_of as_often matching.alike matching.same_trees_by compared_by
broken_rows_holds = refl

pub bad_numbers_holds : wrong twins.bad_numbers ≡ []
unfolding bytes comes_true wrong same_bytes tabulate broken first_broken out_from gather forest many_of as_often matching.alike matching.same_trees_by compared_by
bad_numbers_holds = refl

-- ---- the looser twin test: loose twins (1), none (0), and 14 as in the twin test

pub loosely_alike : wrong loose_twins.loose_twin_cases ≡ []
unfolding bytes comes_true wrong same_bytes tabulate broken first_broken out_from gather forest many_of as_often matching.alike matching.same_trees_by compared_by fine text_of
loosely_alike = refl

pub loosely_unlike : wrong loose_twins.loose_unlike_cases ≡ []
unfolding bytes comes_true wrong same_bytes tabulate broken first_broken out_from gather forest many_of as_often matching.alike matching.same_trees_by compared_by fine text_of
loosely_unlike = refl

pub loosely_any_case_or_order : wrong loose_twins.loose_any_case_or_order ≡ []
unfolding bytes comes_true wrong same_bytes tabulate broken first_broken out_from gather forest many_of as_often matching.alike matching.same_trees_by compared_by fine text_of
loosely_any_case_or_order = refl

pub loosely_refused : wrong loose_twins.loose_refused_cases ≡ []
unfolding bytes comes_true wrong same_bytes tabulate broken first_broken out_from gather forest many_of as_often matching.alike matching.same_trees_by compared_by fine text_of
loosely_refused = refl

-- ---- the count of neighbours, and what it refuses

pub neighbours : wrong twins.neighbour_cases ≡ []
unfolding bytes comes_true wrong same_bytes tabulate broken first_broken out_from gather forest many_of as_often matching.alike matching.same_trees_by repeats neighbours_answer
neighbours = refl

pub neighbours_with_properties_holds : wrong twins.neighbours_with_properties ≡ []
unfolding bytes comes_true wrong same_bytes tabulate broken first_broken out_from gather forest many_of as_often matching.alike matching.same_trees_by repeats neighbours_answer
neighbours_with_properties_holds = refl

pub neighbours_refused_holds : wrong twins.neighbours_refused ≡ []
unfolding bytes comes_true wrong same_bytes tabulate broken first_broken out_from gather forest many_of as_often matching.alike matching.same_trees_by repeats neighbours_answer
neighbours_refused_holds = refl

-- ---- the parts of a reading by themselves: unfolding, views, keys and one parameter

pub unfoldings : wrong parts.unfoldings ≡ []
unfolding bytes comes_true wrong turning same_bytes starts_word run unfolded_after quoted_len further_after form_of param_of front_of
unfoldings = refl

pub viewed : wrong parts.viewings ≡ []
unfolding bytes comes_true wrong turning same_bytes starts_word run unfolded_after quoted_len further_after form_of param_of front_of
viewed = refl

pub keyed : wrong parts.keyed ≡ []
unfolding bytes comes_true wrong turning same_bytes starts_word run unfolded_after quoted_len further_after form_of param_of front_of
keyed = refl

pub one_parameter_holds : wrong parts.one_parameter ≡ []
unfolding bytes comes_true wrong turning same_bytes starts_word run unfolded_after quoted_len further_after form_of param_of front_of
one_parameter_holds = refl
