-- What a text answers, by example, held against document 01, "Lines and nesting" and the table of numbers. Assumes nothing.
use mathlib.Core.Path.{◌≡◌, refl}
use mathlib.Core.List.{[], ◌∷◌, map}
use Rattle.octets.specs.Literals.{bytes}
use Rattle.octets.specs.Runs as runs
use Rattle.octets.specs.Words.{same_bytes, starts_word}
use Rattle.parameters.specs.Parameter.{front_of}
use Rattle.parameters.specs.Parameters.{params_after, params_used}
use Rattle.lines.specs.Split.{lines_after}
use Rattle.lines.specs.Rule.{line_of}
use Rattle.lines.specs.declared.Fault.TheVariants.{ReservedKey, EmptyKey, StrayByte}
use Rattle.nesting.specs.Steps.{read_lines, outcome_of}
use Rattle.nesting.specs.declared.Refusal.{Refusal}
use Rattle.std.specs.Prelude.{Ok, Err}
use Rattle.nesting.specs.Steps.{refused_at}

-- "the name is compared exactly": END does not close in another case, by a part of the name, or with more behind it
ends : map outcome_of (bytes "BEGIN:A\nEND:A\n" ∷ bytes "BEGIN:A\nEND:a\n" ∷ bytes "BEGIN:AB\nEND:A\n" ∷ bytes "BEGIN:A\nEND:AB\n" ∷ [])
    ≡ Ok (record { components = 1; properties = 0; parameters = 0 })
    ∷ Err (refused_at Refusal.BadEnd 8)
    ∷ Err (refused_at Refusal.BadEnd 9)
    ∷ Err (refused_at Refusal.BadEnd 8)
    ∷ []
unfolding bytes runs.run same_bytes starts_word front_of params_after params_used lines_after line_of read_lines outcome_of
ends = refl

-- "any other line with nothing open" is Outside, also one that breaks the property rule; inside it is refused for its fault; all are met at the "line start"
outside : map outcome_of (bytes "K:v\n" ∷ bytes "\n:v\n" ∷ bytes "BEGIN:A\n:v\n" ∷ bytes "BEGIN:A\nend\n" ∷ bytes "BEGIN:A\nK v\n" ∷ [])
    ≡ Err (refused_at Refusal.Outside 0)
    ∷ Err (refused_at Refusal.Outside 1)
    ∷ Err (refused_at (Refusal.Line EmptyKey) 8)
    ∷ Err (refused_at (Refusal.Line ReservedKey) 8)
    ∷ Err (refused_at (Refusal.Line (StrayByte 1)) 8)
    ∷ []
unfolding bytes runs.run same_bytes starts_word front_of params_after params_used lines_after line_of read_lines outcome_of
outside = refl

-- "end of text with a component open": its place is the "text length"; so is that of "no line but empty ones"
at_the_end : map outcome_of (bytes "BEGIN:A\n" ∷ bytes "BEGIN:A\nBEGIN:B\nEND:B" ∷ bytes "\n\r\n" ∷ [])
    ≡ Err (refused_at Refusal.Unclosed 8) ∷ Err (refused_at Refusal.Unclosed 21) ∷ Err (refused_at Refusal.NoComponent 3) ∷ []
unfolding bytes runs.run same_bytes starts_word front_of params_after params_used lines_after line_of read_lines outcome_of
at_the_end = refl
