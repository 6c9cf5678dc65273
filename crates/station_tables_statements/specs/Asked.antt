-- The texts that ask a table for the numbered rows of a channel, by question.
use Rattle.std.specs.Prelude.{ℕ, ◌+◌, ◌*◌, List, [], ◌∷◌}
use Rattle.sqlite_value.specs.Order.{Row}
use Rattle.station_tables_records.proofs.Texts.{tapes_of_text, tape_page_text, last_tape_text, tape_numbered_text}
use Rattle.station_tables_records.proofs.Texts.{clips_of_text, clip_page_text, last_clip_text, clip_numbered_text}
use Rattle.station_tables_records.proofs.Texts.{offers_of_text, offer_page_text, last_offer_text, offer_numbered_text}
use Rattle.station_tables_records.specs.Values.{of_nat}
use Rattle.station_tables_statements.specs.declared.numbered.Question.{Question}
use Rattle.station_tables_statements.specs.declared.numbered.Question.TheVariants.{All, Page, Last, Number}

-- one of these
abbrev pub text_of : List ℕ → List ℕ → List ℕ → List ℕ → Question → List ℕ
text_of all page last one All = all
text_of all page last one (Page p) = page
text_of all page last one Last = last
text_of all page last one (Number n) = one

abbrev pub tape_text_of : Question → List ℕ
tape_text_of = text_of tapes_of_text tape_page_text last_tape_text tape_numbered_text

abbrev pub clip_text_of : Question → List ℕ
clip_text_of = text_of clips_of_text clip_page_text last_clip_text clip_numbered_text

abbrev pub offer_text_of : Question → List ℕ
offer_text_of = text_of offers_of_text offer_page_text last_offer_text offer_numbered_text

-- what stands for its parameters: the channel, and numbers
abbrev pub params_of : Question → ℕ → Row
params_of All c = of_nat c ∷ []
params_of (Page p) c = of_nat c ∷ of_nat (p * 64 + 1) ∷ of_nat (p * 64 + 64) ∷ []
params_of Last c = of_nat c ∷ []
params_of (Number n) c = of_nat c ∷ of_nat n ∷ []
