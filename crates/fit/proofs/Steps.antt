-- The sum over the markers.
use Rattle.std.proofs.Common.{◌≡◌, ℕ, ◌+◌, ◌*◌, ◌<◌, ◌≤◌, List, length, get_or, take, ℤ, pos, negsuc, ◌+ℤ◌, neg_ℤ, ◌≤ℤ◌, sym, arith, w32, to_z, of_z}
use Rattle.std.proofs.lemmas.Int.{ints}
use Rattle.std.proofs.lemmas.List.Sums.{fold_more}
use Rattle.stage.specs.declared.Marker.{Marker}
use Rattle.stage.specs.Marked.{no_marker}
use Rattle.fit.specs.Fit.{agreement, fit}

-- a sum over the first i markers; it stays far from the ends of its type
pub record Summed (values : List ℤ) (markers : List Marker) (start i : ℕ) (sum : ℤ) : Type 0 where
  pub is : sum ≡ fit values (take i markers) start
  pub low : neg_ℤ (pos (128 * i)) ≤ℤ sum
  pub high : sum ≤ℤ pos (128 * i)

-- the sum that the code computes, as long as there are few markers
kept : (a r : ℤ) (k : ℕ) → k ≤ 32768 → neg_ℤ (pos (128 * k)) ≤ℤ a → a ≤ℤ pos (128 * k) → negsuc 127 ≤ℤ r → r ≤ℤ pos 128 → to_z w32 (of_z w32 (a +ℤ to_z w32 (of_z w32 r))) ≡ a +ℤ r
kept a r k few low high least most = omega (arith, ints)

-- one marker more
pub summed_more : (values : List ℤ) (markers : List Marker) (start i : ℕ) (m : Marker) (sum r : ℤ) → i < length markers → i ≤ 32768 → m ≡ get_or markers i no_marker → Summed values markers start i sum → r ≡ agreement values start m → negsuc 127 ≤ℤ r → r ≤ℤ pos 128 → Summed values markers start (i + 1) (to_z w32 (of_z w32 (sum +ℤ to_z w32 (of_z w32 r))))
summed_more values markers start i m sum r below few is so_far agrees least most =
    let more = fold_more (λ sum k. sum +ℤ agreement values start k) (pos 0) markers i no_marker below in
    let low = so_far.low in
    let high = so_far.high in
    rw (kept sum r i few low high least most)
    (record { is = rw (so_far.is, agrees, is) (sym more); low = omega (arith, ints); high = omega (arith, ints) })
