-- The room for 4,096 calls, as a type of the logic and as a type of the code, and what comes back of a call that was lent one.
use mathlib.Core.Path.{◌≡◌, refl, ap}
use mathlib.Core.List.{List, [], ◌∷◌}
use Prim.Native.Nat.{ℕ}
use seplogic.Ra.Ura.{Ura}
use mir.Syntax.{Ty, w8, ty_int, ty_array}
use mir.Val.{Val, vunit}
use base.Logic.{SProp, ent, sep, guard, ex}
use base.Fml.{GName, Fml, fres}
use types.Logic.{Logic, sem}
use contract.Monad.{fact}
use types.Kit.{Item, mean, ‵, raw, ◌⊛◌, some, later, ◌$◌, ◌∵◌, !, qed, move, rewrite, use1, split, pick, feq_l, check, await, updating, now as at_once, done}
use denote.RattleType.{RattleType}
use denote.Array.{Array}
use denote.Builtin.{u8}
use denote.Plain.{Nothing}
use denote.Steps.{only, heard}

abbrev pub Bytes : RattleType
Bytes = Array u8 16384

abbrev pub bytes : Ty
bytes = ty_array (ty_int w8) 16384

module _ {M : Type 1} {𝓤 : Ura M} (𝓛 : Logic 𝓤) where
  -- the room under the name β was left at the bytes zs
  open 𝓛 use {H, A}

  abbrev LeftAt : GName → List ℕ → SProp 𝓤
  LeftAt β zs = A.res β (Bytes.coded.code zs)

  -- a call that returns nothing, holds the tokens, and says that the room's last bytes are zs
  left_at : (tokens : Item 𝓤) {X : Type 0} (L : X → Fml) (last : X → List ℕ) (β : GName) → ((x : X) → ent 𝓤 (sem 𝓛 (L x)) (LeftAt β (last x))) → (zs : List ℕ) (w : Val) →
      ent 𝓤 (H.⇛ (ex 𝓤 (λ (r : Unit {0}). sep 𝓤 (sep 𝓤 (mean 𝓛 tokens) (sem 𝓛 (Nothing.own_val r (w ∷ [])))) (ex 𝓤 (λ (x : X). sep 𝓤 (sem 𝓛 (L x)) (fact 𝓤 (last x ≡ zs)))))))
      (H.⇛ (guard 𝓤 (w ≡ vunit) (sep 𝓤 (mean 𝓛 tokens) (LeftAt β zs))))
  left_at tokens {X} L last β out zs w =
      qed 𝓛 (later (some (λ (r : Unit {0}). (tokens ⊛ ‵ (Nothing.own_val r (w ∷ []))) ⊛ some (λ (x : X). ‵ (L x) ⊛ raw (fact 𝓤 (last x ≡ zs))))) ∷ []) ∵ updating ! $ await ! tt $ pick ! (λ r. split ! $
      move ! (1 ∷ []) $ pick ! (λ x. split ! $ move ! (1 ∷ []) $ heard ! (last x ≡ zs) (λ e. use1 𝓛 (‵ (fres β (Bytes.coded.code (last x)))) (out x) $
      rewrite ! 0 (λ (y : List ℕ). ‵ (fres β (Bytes.coded.code y))) e refl $ move ! (1 ∷ []) $ split ! $ move ! (1 ∷ []) $ feq_l ! (λ is. at_once ! $ check ! (ap only is) $ done !))))
