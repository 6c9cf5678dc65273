-- What the clauses of a store speak of.
use Rattle.channel_view_model.specs.Centre.{Centre}

-- While the store is clean, P holds of each set that it stood for.
abbrev pub WhileClean : Type 0 → (Centre → Type 0) → (Centre → Type 0) → Type 0
WhileClean IsClean StoodFor P = IsClean → (rows : Centre) → StoodFor rows → P rows
