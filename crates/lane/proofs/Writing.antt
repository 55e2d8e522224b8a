-- An image written part by part.
use mathlib.Core.Path.{◌≡◌, refl, sym, ap, ap₂, ◌∙◌}
use Prim.Native.Nat.{ℕ, ◌+◌, ◌*◌, ◌≤◌, ◌<◌}
use native.Mathlib.Numerals.{add-one}
use native.Mathlib.Omega.{arith}
use mathlib.Core.List.{List, [], ◌∷◌, ◌++◌, append_assoc, append-nil}
use lib.ListN.{length, get_or, take, length-append}
use lib.Seq.{take-suc, length-take-le}
use lib.IntN.{ℤ, pos}
use Rattle.semantics.proofs.Images.{length-value_bytes}
use Rattle.semantics.specs.Bytes.{le_bytes}
use Rattle.semantics.specs.Signed.{residue}
use Rattle.semantics.specs.Plan.{Plan, max_components, max_variables}
use Rattle.semantics.specs.Move.{Configuration}
use Rattle.semantics.specs.Image.{image_length, marks_place, locations_place, last_ports_place, value_place, head, value_bytes, image, with_marks}
use Rattle.words.specs.Splice.{splice}
use Rattle.words.proofs.SpliceLaws.{splice-splice, splice_all, splice-next}

-- ---- values

values_append : (us vs : List ℤ) → value_bytes (us ++ vs) ≡ value_bytes us ++ value_bytes vs
unfolding value_bytes
values_append [] vs = refl
values_append (u ∷ us) vs =
    ap (λ (l : List ℕ). le_bytes 4 (residue u) ++ l) (values_append us vs) ∙ sym (append_assoc (le_bytes 4 (residue u)) (value_bytes us) (value_bytes vs))

values_one : (v : ℤ) → value_bytes (v ∷ []) ≡ le_bytes 4 (residue v)
unfolding value_bytes
values_one v = append-nil (le_bytes 4 (residue v))

-- one value more is written
pub values_turn : (l : List ℕ) (at : ℕ) (vs : List ℤ) (i : ℕ) {m : List ℕ} → at + 4 * length vs ≤ length l → i < length vs
    → m ≡ splice l at (value_bytes (take i vs)) → splice m (at + 4 * i) (le_bytes 4 (residue (get_or vs i (pos 0)))) ≡ splice l at (value_bytes (take (i + 1) vs))
values_turn l at vs i h k e =
    let z = get_or vs i (pos 0) in
    let n : length (value_bytes (take i vs)) ≡ 4 * i = length-value_bytes (take i vs) ∙ ap (λ (j : ℕ). 4 * j) (length-take-le i vs (omega arith)) in
    let t : value_bytes (take i vs) ++ le_bytes 4 (residue z) ≡ value_bytes (take (i + 1) vs) =
    ap (λ (x : List ℕ). value_bytes (take i vs) ++ x) (sym (values_one z)) ∙ sym (values_append (take i vs) (z ∷ []))
    ∙ ap value_bytes (sym (take-suc vs i (pos 0) k)) ∙ ap (λ (j : ℕ). value_bytes (take j vs)) (sym (add-one i)) in
    ap (λ (x : List ℕ). splice x (at + 4 * i) (le_bytes 4 (residue z))) e
    ∙ splice-splice l at (value_bytes (take i vs)) (at + 4 * i) (le_bytes 4 (residue z)) (omega arith) (omega arith) ∙ ap (splice l at) t

-- ---- the whole image

-- the marks alone
pub marks_put : (l : List ℕ) (m : ℕ) → splice l marks_place (le_bytes 8 m) ≡ with_marks l m
unfolding splice with_marks le_bytes
marks_put l m = refl

-- five parts in a row
pub written : (p : Plan) (c : Configuration) (m : ℕ) (l : List ℕ) {w₁ w₂ w₃ w₄ w₅ : List ℕ} → length l ≡ image_length
    → length c.state.locations ≡ max_components → length c.state.last_ports ≡ max_components → length c.state.values ≡ max_variables
    → w₁ ≡ splice l 0 (head p c.oracles) → w₂ ≡ splice w₁ marks_place (le_bytes 8 m) → w₃ ≡ splice w₂ locations_place c.state.locations
    → w₄ ≡ splice w₃ last_ports_place c.state.last_ports → w₅ ≡ splice w₄ (value_place 0) (value_bytes c.state.values) → w₅ ≡ image p c m
unfolding image head le_bytes
written p c m l {w₁ = w₁} {w₂ = w₂} {w₃ = w₃} {w₄ = w₄} {w₅ = w₅} h hl hp hv e₁ e₂ e₃ e₄ e₅ =
    let b = head p c.oracles ++ le_bytes 8 m in
    let d = b ++ c.state.locations in
    let f = d ++ c.state.last_ports in
    let v = value_bytes c.state.values in
    let nd : length d ≡ last_ports_place = length-append b c.state.locations ∙ ap (λ (n : ℕ). locations_place + n) hl in
    let nf : length f ≡ value_place 0 = length-append d c.state.last_ports ∙ ap₂ ◌+◌ nd hp in
    let nv : length (f ++ v) ≡ image_length = length-append f v ∙ ap₂ ◌+◌ nf (length-value_bytes c.state.values ∙ ap (λ (n : ℕ). 4 * n) hv) in
    let r₂ = splice-next l (head p c.oracles) (le_bytes 8 m) marks_place w₁ w₂ refl (omega arith) e₁ e₂ in
    let r₃ = splice-next l b c.state.locations locations_place w₂ w₃ refl (omega arith) r₂ e₃ in
    let r₄ = splice-next l d c.state.last_ports last_ports_place w₃ w₄ nd (omega arith) r₃ e₄ in
    let r₅ = splice-next l f v (value_place 0) w₄ w₅ nf (omega arith) r₄ e₅ in
    r₅ ∙ splice_all l (f ++ v) (nv ∙ sym h)
