-- Messages that were given their answers decide alone what they were given, and which rows are left.
use Rattle.std.proofs.Common.{◌≡◌, ℕ, List, [], ◌∷◌, refl, sym, ◌∙◌, ap}
use Rattle.channel_view_model.specs.Centre.{Centre}
use Rattle.http_office_requests.specs.Request.{Asked}
use Rattle.http_office.specs.Message.{answer_to, rows_asked}
use Rattle.http_office.specs.Run.{AnswersAll, rows_left_by}
use Rattle.http_office.specs.Again.{given_asked, given_bytes}
use Rattle.http_office_answers.specs.declared.answers.Answer.{Answer}
use Rattle.http_office_answers.specs.declared.answers.Answer.TheVariants.{Given, Unavailable}

-- the answers to messages one after another, and the rows behind them
abbrev texts : Centre → List Asked → List (List ℕ)
texts rows [] = []
texts rows (a ∷ asked) = answer_to rows a ∷ texts (rows_asked rows a) asked

abbrev rows_behind : Centre → List Asked → Centre
rows_behind rows [] = rows
rows_behind rows (a ∷ asked) = rows_behind (rows_asked rows a) asked

given_are : (rows : Centre) (asked : List Asked) (xs : List Answer) → AnswersAll rows asked xs
    → given_bytes xs ≡ texts rows (given_asked asked xs)
given_are rows [] [] all = refl
given_are rows [] (x ∷ xs) all = absurd all
given_are rows (a ∷ asked) [] all = absurd all
given_are rows (a ∷ asked) (Unavailable ∷ xs) all = given_are rows asked xs all.1
given_are rows (a ∷ asked) (Given bytes ∷ xs) all = λ i. all.0 i ∷ given_are (rows_asked rows a) asked xs all.1 i

left_is : (rows : Centre) (asked : List Asked) (xs : List Answer)
    → rows_left_by rows asked xs ≡ rows_behind rows (given_asked asked xs)
left_is rows [] xs = refl
left_is rows (a ∷ asked) [] = refl
left_is rows (a ∷ asked) (Unavailable ∷ xs) = left_is rows asked xs
left_is rows (a ∷ asked) (Given bytes ∷ xs) = left_is (rows_asked rows a) asked xs

module _ (rows : Centre) (asked others : List Asked) (xs ys : List Answer)
    (same : given_asked asked xs ≡ given_asked others ys) where
  pub given_same : AnswersAll rows asked xs → AnswersAll rows others ys → given_bytes xs ≡ given_bytes ys
  given_same all all_too = given_are rows asked xs all ∙ ap (texts rows) same ∙ sym (given_are rows others ys all_too)

  pub left_same : rows_left_by rows asked xs ≡ rows_left_by rows others ys
  left_same = left_is rows asked xs ∙ ap (rows_behind rows) same ∙ sym (left_is rows others ys)
