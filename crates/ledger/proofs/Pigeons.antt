-- Different numbers that each have a place of their own are at most as many as the places.
use Rattle.std.proofs.Common.{◌≡◌, ℕ, zero, suc, ◌+◌, ◌<◌, ◌≤◌, List, [], ◌∷◌, length, sym, refl, ap, ◌∙◌, subst, arith}
use mathlib.Core.List.Memᴰ
use mathlib.Core.List.{Memᴰ}
use native.Mathlib.Decide.{ℕ_discrete}
use Rattle.ledger.specs.Diagrams.{Apart, Counts}

abbrev without : {A : Type 0} {d : A} {ds : List A} → Memᴰ d ds → List A
without (Memᴰ.head {xs = xs} e) = xs
without (Memᴰ.tail {x = x} m) = x ∷ without m

one_less : {A : Type 0} {d : A} {ds : List A} (m : Memᴰ d ds) → length ds ≡ suc (length (without m))
one_less (Memᴰ.head e) = refl
one_less (Memᴰ.tail m) = ap suc (one_less m)

still_in : {A : Type 0} {d e : A} {ds : List A} (m : Memᴰ d ds) → Memᴰ e ds → (e ≡ d → ⊥) → Memᴰ e (without m)
still_in (Memᴰ.head p) (Memᴰ.head q) other = absurd (other (q ∙ sym p))
still_in (Memᴰ.head p) (Memᴰ.tail k) other = k
still_in (Memᴰ.tail m) (Memᴰ.head q) other = Memᴰ.head q
still_in (Memᴰ.tail m) (Memᴰ.tail k) other = Memᴰ.tail (still_in m k other)

module _ {A B : Type 0} (R : A → B → Type 0) where
  pub pigeons : (ks : List A) (ds : List B) → Apart ks →
      ((k : A) → Memᴰ k ks → (d : B) × Memᴰ d ds × R k d) →
      ((k j : A) (d : B) → Memᴰ k ks → Memᴰ j ks → R k d → R j d → k ≡ j) →
      length ks ≤ length ds
  pigeons [] ds apart each own = omega arith
  pigeons (k ∷ ks) ds apart each own =
      let at = each k (Memᴰ.head refl) in
      let rest : length ks ≤ length (without at.1) =
      pigeons ks (without at.1) apart.1
      (λ j m.
      let to = each j (Memᴰ.tail m) in (
        to.0,
        still_in at.1 to.1
            (λ e. apart.0 (Memᴰ.cast (own k j at.0 (Memᴰ.head refl) (Memᴰ.tail m) at.2 (subst (R j) e to.2)) m)),
        to.2,
      ))
      (λ i j d m n. own i j d (Memᴰ.tail m) (Memᴰ.tail n)) in
      omega (arith, one_less at.1)

-- a property counts as often as it counts
pub counts_once : {A : Type 0} (P : A → Type 0) (m n : ℕ) → Counts P m → Counts P n → m ≡ n
counts_once P m n p q =
    let there = pigeons (λ k d. k ≡ d) p.them q.them p.apart (λ k i. (k, q.whole k (p.sound k i), refl)) (λ k j d a b e f. e ∙ sym f) in
    let back = pigeons (λ k d. k ≡ d) q.them p.them q.apart (λ k i. (k, p.whole k (q.sound k i), refl)) (λ k j d a b e f. e ∙ sym f) in
    omega (arith, p.many, q.many)

abbrev pub upwards : ℕ → ℕ → List ℕ
upwards k zero = []
upwards k (suc n) = k ∷ upwards (suc k) n

pub length_upwards : (k n : ℕ) → length (upwards k n) ≡ n
length_upwards k zero = refl
length_upwards k (suc n) = ap suc (length_upwards (suc k) n)

pub in_upwards : (k n i : ℕ) → k ≤ i → i < k + n → Memᴰ i (upwards k n)
in_upwards k zero i h l = absurd (omega arith)
in_upwards k (suc n) i h l = by (ℕ_discrete i k) (λ low high. in_upwards (suc k) n i low high)
  where
    by : Dec (i ≡ k) → (suc k ≤ i → i < suc k + n → Memᴰ i (upwards (suc k) n)) → Memᴰ i (upwards k (suc n))
    by (yes e) more = Memᴰ.head e
    by (no f) more = Memᴰ.tail (more (omega arith) (omega arith))
