-- What a pile of a lower and an upper stage means: what leaves the lower enters the upper.
use Rattle.std.specs.Prelude.{◌≡◌, ℕ, Bool, not, ◌&&◌, T, List, ◌++◌, map, length, Ok, Result, nat_le}
use Rattle.refusal.specs.declared.Refusal.{Refusal}
use Rattle.refusal.specs.declared.Refusal.TheVariants.{NoSuchPlace, CountNotTaken}
use Rattle.refusal.specs.Answer.{refused_when}
use Rattle.stage.specs.declared.Content.{Content}
use Rattle.stage.specs.declared.Content.TheVariants.{Carried, Inverted, Fixed, Mute}
use Rattle.stage.specs.declared.Element.{Element}
use Rattle.stage.specs.declared.Marker.{Marker}
use Rattle.stage.specs.Elements.{inverse, leaving}
use Rattle.stage.specs.Meaning.{Meaning, home_of}

-- what the pile has where the upper has this content, over what the lower has at each of its places
abbrev pub over : (ℕ → Content) → Content → Content
over lower (Carried j) = lower j
over lower (Inverted j) = inverse (lower j)
over lower (Fixed b) = Fixed b
over lower Mute = Mute

-- the pile takes n if the lower takes n and the upper takes the lower's length
abbrev pub piled : Meaning → Meaning → Meaning
piled lower upper = record {
  takes = λ n. lower.takes n && upper.takes (lower.size n);
  size = λ n. upper.size (lower.size n);
  at = λ n p. over (lower.at n) (upper.at (lower.size n) p);
}

-- a bit as it stands where a stage has this content: inverted where the stage inverts
abbrev pub bit_over : Bool → Content → Bool
bit_over b (Carried j) = b
bit_over b (Inverted j) = not b
bit_over b (Fixed c) = b
bit_over b Mute = b

-- a marker of the lower in the pile: at the new home of its place, inverted where the upper inverts
abbrev pub moved : Meaning → ℕ → Marker → Marker
moved upper n m = record {
  place = home_of upper n m.place;
  bit = bit_over m.bit (upper.at n (home_of upper n m.place));
}

-- what asking a stage for a marker of the elements that enter it, as it leaves, answers
abbrev pub moved_answer : Meaning → ℕ → Marker → Result Marker Refusal
moved_answer upper n m =
    refused_when (not (upper.takes n)) CountNotTaken (refused_when (nat_le n m.place) NoSuchPlace (Ok (moved upper n m)))

-- the markers of the pile: the upper's first, then the lower's
abbrev pub piled_markers : Meaning → Meaning → (ℕ → List Marker) → (ℕ → List Marker) → ℕ → List Marker
piled_markers lower upper lower_markers upper_markers n =
    upper_markers (lower.size n) ++ map (moved upper (lower.size n)) (lower_markers n)

-- what leaves the pile is what leaves the upper when what leaves the lower enters it
abbrev pub Enters : Meaning → Meaning → Type 0
Enters lower upper =
    (elements : List Element) → T ((piled lower upper).takes (length elements)) → leaving (piled lower upper) elements ≡ leaving upper (leaving lower elements)
