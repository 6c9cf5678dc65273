-- What is answered to a text, line by line.
use Rattle.std.proofs.Common.{◌≡◌, ℕ, ◌+◌, ◌<◌, List, [], ◌∷◌, ◌++◌, length, refl, sym, ap, ◌∙◌, arith, append_assoc}
use Rattle.std.proofs.lemmas.List.{append-nil}
use Rattle.std.specs.Prelude.{Option, Some, None}
use Rattle.std.specs.List.{before_first, after_first}
use Rattle.std.specs.Option.{option_or}
use Rattle.timecode.specs.declared.rates.Rate.{Rate}
use Rattle.channel_plan.specs.declared.fault.ListFault.{ListFault}
use Rattle.edl.specs.Text.{raw_lines, without_cr, is_line_end}
use Rattle.edl.proofs.TextLemmas.{raw_lines-step}
use Rattle.timecode_lines.specs.Lines.{answer, line_written, lines_written, fault_from, fault_at, fault_of}

-- behind the first line
pub text_next : (rate : Rate) (done text : List ℕ) → 0 < length text
    → (done ++ line_written (answer rate (without_cr (before_first is_line_end text))))
    ++ lines_written rate (raw_lines (after_first is_line_end text))
    ≡ done ++ lines_written rate (raw_lines text)
unfolding lines_written
text_next rate done text some = rw (raw_lines-step text some, append_assoc) refl

or_assoc : (a b c : Option ListFault) → option_or (option_or a b) c ≡ option_or a (option_or b c)
or_assoc None b c = refl
or_assoc (Some a) b c = refl

pub fault_next : (rate : Rate) (n : ℕ) (earlier : Option ListFault) (text : List ℕ) → 0 < length text
    → option_or (option_or earlier (fault_at n (fault_of (answer rate (without_cr (before_first is_line_end text))))))
    (fault_from rate (n + 1) (raw_lines (after_first is_line_end text)))
    ≡ option_or earlier (fault_from rate n (raw_lines text))
unfolding fault_from
fault_next rate n earlier text some = rw (raw_lines-step text some, or_assoc) refl

pub none_left : (rate : Rate) → lines_written rate (raw_lines []) ≡ []
unfolding lines_written raw_lines
none_left rate = refl

pub no_fault_left : (rate : Rate) (n : ℕ) → fault_from rate n (raw_lines []) ≡ None
unfolding fault_from raw_lines
no_fault_left rate n = refl

pub text_end : (rate : Rate) (done text whole : List ℕ) → length text ≡ 0
    → done ++ lines_written rate (raw_lines text) ≡ whole → done ≡ whole
text_end rate done [] whole e is =
    sym (append-nil done) ∙ ap (λ (more : List ℕ). done ++ more) (sym (none_left rate)) ∙ is
text_end rate done (b ∷ bs) whole e is = absurd (omega arith)

or_none : (a : Option ListFault) → option_or a None ≡ a
or_none None = refl
or_none (Some a) = refl

pub fault_end : (rate : Rate) (n : ℕ) (earlier whole : Option ListFault) (text : List ℕ) → length text ≡ 0
    → option_or earlier (fault_from rate n (raw_lines text)) ≡ whole → earlier ≡ whole
fault_end rate n earlier whole [] e is =
    sym (or_none earlier) ∙ ap (λ (more : Option ListFault). option_or earlier more) (sym (no_fault_left rate n)) ∙ is
fault_end rate n earlier whole (b ∷ bs) e is = absurd (omega arith)
