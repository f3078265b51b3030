-- What a stage owes follows from one function that gives each element's place; and so do its markers' laws.
use Rattle.std.proofs.Common.{◌≡◌, ℕ, ◌<◌, ◌≤◌, Bool, true, T, sym, ◌∙◌, arith}
use Rattle.stage.specs.declared.Content.TheVariants.{Fixed}
use Rattle.stage.specs.Meaning.{Meaning, Homes, Stands, carries, home_of}
use Rattle.stage.specs.Marked.{Marked, no_marker}
use Rattle.layout.specs.Places.{markers_at}
use Rattle.layout.proofs.Places.{first_place_is, marker_back, markers_apart}

-- each element stands at the place that the function gives, and only elements that enter stand anywhere, there
pub record Placed (m : Meaning) (place_of : ℕ → ℕ) : Type 0 where
  pub least : (n : ℕ) → T (m.takes n) → n ≤ m.size n
  pub most : (n : ℕ) → T (m.takes n) → m.size n ≤ 32768
  pub there : (n i : ℕ) → i < n → Stands m n i (place_of i)
  pub only : (n i p : ℕ) → Stands m n i p → (i < n) × (p ≡ place_of i)

pub homes_fit : (m : Meaning) (place_of : ℕ → ℕ) → Placed m place_of → Homes m
homes_fit m place_of f =
    record {
      least = f.least;
      most = f.most;
      incoming = λ n i p t s. (f.only n i p s).0;
      somewhere = λ n i t h. (place_of i, f.there n i h);
      once = λ n i p q t s u. (f.only n i p s).1 ∙ sym (f.only n i q u).1;
    }

pub home_is : (m : Meaning) (place_of : ℕ → ℕ) → Placed m place_of → (n i : ℕ) → i < n → home_of m n i ≡ place_of i
home_is m place_of f n i h =
    let s = f.there n i h in
    first_place_is (λ p. carries (m.at n p) i) (m.size n) (place_of i) s.0 s.1
    (λ q l t. omega (arith, (f.only n i q (omega (arith, s.0), t)).1))

-- markers at the places that pass a test stand apart, and hold where the content there is the bit
pub markers_hold : (m : Meaning) (test bit : ℕ → Bool) (n : ℕ) → ((p : ℕ) → test p ≡ true → m.at n p ≡ Fixed (bit p)) → Marked m (λ k. markers_at test bit (m.size k)) n
markers_hold m test bit n fixed = (
  λ t j k hj hk e. markers_apart test bit (m.size n) no_marker j k hj hk e,
  λ t k h. let (p, inside, passes, _, e) = marker_back test bit (m.size n) k no_marker h in rw e (inside, fixed p passes),
)
