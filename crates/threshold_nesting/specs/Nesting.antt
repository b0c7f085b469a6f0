-- What a word does where a set is open: the grammar of thresholds, members and brackets, and of the end of a line.
use Rattle.std.specs.Prelude.{ℕ, ◌+◌, ◌-◌, Bool, ◌||◌, not, cond, eqb, ltb}
use Rattle.masks.specs.Mask.{has, single, size}
use Rattle.refusals.specs.declared.Refusal.{Refusal}
use Rattle.refusals.specs.declared.Refusal.TheVariants.{Slice, Nesting}
use Rattle.refusals.specs.declared.Refusal.TheVariants.{Count as Sets, Threshold as Unreachable}
use Rattle.threshold_words.specs.declared.Token.{Token}
use Rattle.threshold_words.specs.declared.Token.TheVariants.{Silence, Sites, Number, Colon, Open, Close, End, Strange}
use Rattle.threshold_words.specs.declared.Token.TheVariants.{Of as TheOf}
use Rattle.threshold_grammar.specs.Grammar.{doing, spot_at, threshold_own, threshold_missed, threshold_onward, threshold_many, threshold_owner, threshold_sited}
use Rattle.threshold_grammar.specs.Grammar.{linked, threshold_coloned}
use Rattle.threshold_grammar.specs.declared.Deed.TheVariants.{Nothing, Inner, Least, Site}
use Rattle.threshold_grammar.specs.declared.Phase.{Phase}
use Rattle.threshold_grammar.specs.declared.Phase.TheVariants.{Head, Count, Tail, Owner, Mark, Threshold, Of, Members, Wrong}
use Rattle.threshold_grammar.specs.declared.Why.TheVariants.{Other, Rule}
use Rattle.threshold_grammar.specs.declared.Spot.{Spot}
use Rattle.threshold_nesting.specs.declared.Held.{Held}

-- a rule is broken by the line that is read
abbrev pub broken : Spot → (ℕ → Refusal) → Spot
broken s r = spot_at s (Wrong (Rule (r (threshold_own s.v))))

-- "a threshold of zero, or above its sites and inner sets together"
unfoldable pub unreached : Held → Bool
unreached h = eqb h.threshold 0 || ltb (size h.plain + h.inner) h.threshold

-- one site more in the innermost set: "a site at or above n 5"; "a site named twice in one set is a fault of the text"
unfoldable pub threshold_member : Spot → Held → ℕ → Spot
threshold_member s h x =
    cond (not (ltb x s.n)) (broken s Slice)
    (cond (has h.plain x) (spot_at s (Wrong Other))
    (doing s (Site (single x)) Members))

-- an inner set begins: "a 50th set 4 (when its bracket opens)", "a bracket that opens a fifth level 22"; it stands behind all sets so far
unfoldable pub set_opened : Spot → Held → Spot
set_opened s h =
    cond (ltb 48 h.sets) (broken s Sets)
    (cond (ltb 3 s.depth) (broken s Nesting)
    (record {
      line = s.line;
      n = s.n;
      v = s.v;
      depth = s.depth + 1;
      set = h.sets;
      around = s.set;
      beyond = s.around;
      deed = Inner;
      phase = Threshold;
    }))

-- the innermost set is complete at its `)`: "21 (said when the set is complete)"; the set around it is in hand again. The root has no bracket.
unfoldable pub set_closed : Spot → Held → Spot
unfolding threshold_missed unreached
set_closed s h =
    cond (not (ltb 1 s.depth)) (threshold_missed s)
    (cond (unreached h) (broken s Unreachable)
    (record {
      line = s.line;
      n = s.n;
      v = s.v;
      depth = s.depth - 1;
      set = s.around;
      around = s.beyond;
      beyond = 0;
      deed = Nothing;
      phase = Members;
    }))

-- the root is complete at the end of the line; "a missing `)` is a fault of the text"
unfoldable pub set_completed : Spot → Held → Spot
unfolding threshold_missed unreached
set_completed s h = cond (ltb 1 s.depth) (threshold_missed s) (cond (unreached h) (broken s Unreachable) (threshold_onward s Owner))

-- what a number does where something is expected, then an opening bracket, a closing one, the end of a line
abbrev pub threshold_numbered : Phase → Spot → Held → ℕ → Spot
threshold_numbered Head s h x = threshold_missed s
threshold_numbered Count s h x = threshold_many s x
threshold_numbered Tail s h x = threshold_missed s
threshold_numbered Owner s h x = threshold_owner s x
threshold_numbered Mark s h x = threshold_missed s
threshold_numbered Threshold s h x = doing s (Least x) Of
threshold_numbered Of s h x = threshold_missed s
threshold_numbered Members s h x = threshold_member s h x
threshold_numbered (Wrong w) s h x = threshold_missed s

abbrev pub bracket_opens : Phase → Spot → Held → Spot
bracket_opens Head s h = threshold_missed s
bracket_opens Count s h = threshold_missed s
bracket_opens Tail s h = threshold_missed s
bracket_opens Owner s h = threshold_missed s
bracket_opens Mark s h = threshold_missed s
bracket_opens Threshold s h = threshold_missed s
bracket_opens Of s h = threshold_missed s
bracket_opens Members s h = set_opened s h
bracket_opens (Wrong w) s h = threshold_missed s

abbrev pub bracket_closes : Phase → Spot → Held → Spot
bracket_closes Head s h = threshold_missed s
bracket_closes Count s h = threshold_missed s
bracket_closes Tail s h = threshold_missed s
bracket_closes Owner s h = threshold_missed s
bracket_closes Mark s h = threshold_missed s
bracket_closes Threshold s h = threshold_missed s
bracket_closes Of s h = threshold_missed s
bracket_closes Members s h = set_closed s h
bracket_closes (Wrong w) s h = threshold_missed s

abbrev pub threshold_line_end : Phase → Spot → Held → Spot
threshold_line_end Head s h = threshold_onward s Head
threshold_line_end Count s h = threshold_missed s
threshold_line_end Tail s h = threshold_onward s Owner
threshold_line_end Owner s h = threshold_onward s Owner
threshold_line_end Mark s h = threshold_missed s
threshold_line_end Threshold s h = threshold_missed s
threshold_line_end Of s h = threshold_missed s
threshold_line_end Members s h = set_completed s h
threshold_line_end (Wrong w) s h = threshold_missed s

-- what a word does where it is heard; h is the innermost set of the line that is read, and how many sets the line has so far
abbrev pub threshold_spoken : Token → Held → Spot → Spot
threshold_spoken Silence h s = spot_at s s.phase
threshold_spoken Sites h s = threshold_sited s.phase s
threshold_spoken TheOf h s = linked s.phase s
threshold_spoken (Number x) h s = threshold_numbered s.phase s h x
threshold_spoken Colon h s = threshold_coloned s.phase s
threshold_spoken Open h s = bracket_opens s.phase s h
threshold_spoken Close h s = bracket_closes s.phase s h
threshold_spoken End h s = threshold_line_end s.phase s h
threshold_spoken Strange h s = threshold_missed s
