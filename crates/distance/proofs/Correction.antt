-- With twice the wrong coded bits plus the lost ones at most 15, the text sent is nearer than every other: place by place
-- a difference adds 254 to the gap between the distances, less 508 where the bit is wrong and 254 where it is lost.
use Rattle.std.proofs.Common.{◌≡◌, ℕ, ◌+◌, ◌*◌, ◌≤◌, Bool, true, false, ap, arith, lit≤}
use mathlib.Core.Bool.{xor}
use Rattle.code.specs.Coder.{bit, coded, coded_count}
use Rattle.distance.specs.Nearest.{total, distance}
use Rattle.distance.specs.Apart.{Heard, full, wrong, lost, is_wrong, is_lost, heard_cost, Corrects}
use Rattle.distance.specs.Trellis.{one}
use Rattle.distance.proofs.Totals.{total_le, total_add, total_times}
use Rattle.distance.proofs.Separation.{apart_sixteen}

-- the gap at one place
gap : (h : Heard) (s o : Bool)
    → heard_cost h s s + 254 * one (xor o s) ≤ heard_cost h s o + (508 * one (is_wrong h) + 254 * one (is_lost h))
unfolding xor
gap full true true = lit≤ tt
gap full true false = lit≤ tt
gap full false true = lit≤ tt
gap full false false = lit≤ tt
gap wrong true true = lit≤ tt
gap wrong true false = lit≤ tt
gap wrong false true = lit≤ tt
gap wrong false false = lit≤ tt
gap lost true true = lit≤ tt
gap lost true false = lit≤ tt
gap lost false true = lit≤ tt
gap lost false false = lit≤ tt

pub corrects_fifteen : Corrects 15
corrects_fifteen cost m sent heard h other o ne =
    let n = coded_count m in
    let S : ℕ → ℕ = λ i. cost i (coded (bit sent) i) in
    let O : ℕ → ℕ = λ i. cost i (coded (bit other) i) in
    let D : ℕ → ℕ = λ i. one (xor (coded (bit other) i) (coded (bit sent) i)) in
    let W : ℕ → ℕ = λ i. one (is_wrong (heard i)) in
    let L : ℕ → ℕ = λ i. one (is_lost (heard i)) in
    let d : 16 ≤ total n D = apart_sixteen m other sent o h.octets ne in
    let all : total n (λ i. S i + 254 * D i) ≤ total n (λ i. O i + (508 * W i + 254 * L i)) =
    total_le n (λ i. S i + 254 * D i) (λ i. O i + (508 * W i + 254 * L i))
    (λ i l.
    let g = gap (heard i) (coded (bit sent) i) (coded (bit other) i) in
    let p = h.costs i l (coded (bit sent) i) in
    let q = h.costs i l (coded (bit other) i) in
    omega arith) in
    let s1 = total_add n S (λ i. 254 * D i) in
    let s2 = total_times n 254 D in
    let s3 = total_add n O (λ i. 508 * W i + 254 * L i) in
    let s4 = total_add n (λ i. 508 * W i) (λ i. 254 * L i) in
    let s5 = total_times n 508 W in
    let s6 = total_times n 254 L in
    let w = h.within in
    let ds : distance cost sent ≡ total n S = ap (λ k. total (coded_count k) S) h.octets.0 in
    let do' : distance cost other ≡ total n O = ap (λ k. total (coded_count k) O) o.0 in
    omega arith
