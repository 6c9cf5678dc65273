-- Part of the promise: parts of a centre: the rows and the requests of some of its channels, and when the others' may
-- be left out.
use Rattle.std.specs.Prelude.{◌≡◌, ℕ, List, Bool, true, filter}
use Rattle.channel_view_model.specs.Centre.{Centre, Request}
use Rattle.channel_view_model.specs.Rules.{is_planned, KeepsRules}
use Rattle.channel_view_model.specs.Solo.{lends}

-- the rows of a part's channels
abbrev pub rows_part : (ℕ → Bool) → Centre → Centre
rows_part mine rows = record {
  channels = filter (λ p. mine p.ch) rows.channels;
  tapes = filter (λ r. mine r.0) rows.tapes;
  clips = filter (λ r. mine r.0) rows.clips;
  offers = filter (λ r. mine r.0) rows.offers;
  days = filter (λ r. mine r.0) rows.days;
  aired = filter (λ r. mine r.0) rows.aired;
}

-- the requests of a part's channels
abbrev pub requests_part : (ℕ → Bool) → List Request → List Request
requests_part mine rs = filter (λ r. mine r.0) rs

-- A part is closed: who lends to a channel of it that is in the plan, before or in the run, is in it.
abbrev pub IsClosed : (ℕ → Bool) → Centre → List Request → Type 0
IsClosed mine rows rs =
    (c b : ℕ) → mine c ≡ true → is_planned rows.channels c ≡ true → lends c rows rs b ≡ true → mine b ≡ true

-- These rows and requests are those of a closed part of a whole that keeps the rules.
pub record IsClosedPart (mine : ℕ → Bool) (whole : Centre) (all : List Request) (rows : Centre) (rs : List Request)
    : Type 0 where
  pub rules : KeepsRules whole
  pub closed : IsClosed mine whole all
  pub rows_are : rows ≡ rows_part mine whole
  pub requests_are : rs ≡ requests_part mine all
