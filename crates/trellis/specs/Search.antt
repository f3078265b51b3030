-- What the search for the nearest text answers.
use Rattle.std.specs.Prelude.{ℕ, ◌+◌, ◌*◌, ◌||◌, Ok, Result, nat_lt}
use Rattle.refusal.specs.declared.Refusal.{Refusal}
use Rattle.refusal.specs.declared.Refusal.TheVariants.{MemoryTooShort}
use Rattle.refusal.specs.Answer.{refused_when, text_checked}

-- how many steps a text of m octets takes: its bits and four zero bits; each needs a place of working memory
abbrev pub steps_of : ℕ → ℕ
steps_of m = 8 * m + 4

-- for m octets, text memory and working memory of so many places: refused, or the distance
abbrev pub search_answer : ℕ → ℕ → ℕ → ℕ → Result ℕ Refusal
search_answer m places work_places found =
    text_checked m (refused_when (nat_lt places m || nat_lt work_places (steps_of m)) MemoryTooShort (Ok found))
