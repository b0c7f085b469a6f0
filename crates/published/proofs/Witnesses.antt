-- The witnesses: answers, state and run by computation; the image by the round trip of writing and reading.
use Rattle.refusals.specs.Check.{Check}
use Rattle.std.specs.Prelude.{Some, None, Ok, Err}
use Prim.Native.Nat.{ℕ, zero, suc, ◌+◌, ◌<◌, ◌/◌}
use mathlib.Core.Bool.{Bool, true, false, ◌&&◌}
use mathlib.Core.List.{List, [], ◌∷◌, ◌++◌}
use mathlib.Core.Path.{◌≡◌, refl, sym, ap, ◌∙◌}
use native.Mathlib.Omega.{arith}
use borrow.Author.Tests.{ltb-true}
use lib.Dec.{ltb}
use lib.ListN.{length, get_or, take, drop, replicate}
use lib.Seq.{take_at}
use Rattle.check_text.specs.Table.{table_on, image_check}
use Rattle.ground.proofs.Logic.{and_l, and_r}
use Rattle.ground.specs.Search.{some, every, least}
use Rattle.image_blocks.proofs.Load.{length-loads}
use Rattle.image.proofs.ReadLaws.{read_taken}
use Rattle.image.proofs.RoundTrip.{write-then-read}
use Rattle.image_blocks.specs.Image.{loads}
use Rattle.image.specs.Read.{read, read_into, read_check, to_reading}
use Rattle.image.specs.RoundTrip.{Words}
use Rattle.image_write.specs.Write.{write, write_check}
use Rattle.masks.specs.Mask.{has, within, minus, gather}
use Rattle.questions.specs.Answers.{quorum, largest, blocks, shared, intact, set_site_check, pair_of, set_left}
use Rattle.refusals.specs.First.{first}
use Rattle.rules.specs.Rules.{accepting, confirming, now_accepts, now_confirms, hears, taken, out_of_range, crooked, against, unsent, answer}
use Rattle.rules.specs.State.{width, add}
use Rattle.run.specs.Examples.{table_a, rows_b, table_b, table_apart}
use Rattle.run.specs.Run.{run_check, roomless, ran, list_misshapen}
use Rattle.run.specs.Theorems.{Taken}
use Rattle.sets.specs.Groups.{Groups, lists, Checked, set_check}
use Rattle.sets.specs.Promises.{questions_of}
use Rattle.sets.specs.Quorum as Quorum
use Rattle.sets.specs.Slices.{slices_of}
use Rattle.rows.specs.Row.{strange, unordered, slice_check, row_check}
use Rattle.rows.specs.Site.{row_unfilled, site_check}
use Rattle.table.specs.Table.{table_misshapen, sites_check, check}
use Rattle.verdicts.specs.Verdicts as Verdicts
use Rattle.votes.specs.Passes.{passes, run}
use Rattle.votes.specs.Vote.{fresh, run_of}
use Rattle.published.proofs.Runs.{never-unsound}
use Rattle.published.specs.Witnesses.{late, image_b, Witnesses}

a-sound : Checked table_a
unfolding check table_misshapen sites_check site_check row_check slice_check strange unordered row_unfilled some first has within
a-sound = refl

b-sound : Checked table_b
unfolding check table_misshapen sites_check site_check row_check slice_check strange unordered row_unfilled some first has within
b-sound = refl

-- the table and the set are checked by computation; what is asked of the checked table is computed then
a-quorum : quorum table_b 7 ≡ Ok true
unfolding quorum set_check check table_misshapen sites_check site_check row_check slice_check strange unordered row_unfilled some every first has within slices_of Quorum.quorum
a-quorum = refl

no-quorum : quorum table_b 3 ≡ Ok false
unfolding quorum set_check check table_misshapen sites_check site_check row_check slice_check strange unordered row_unfilled some every first has within slices_of Quorum.quorum
no-quorum = refl

blocked : blocks table_b 6 0 ≡ Ok true
unfolding blocks set_site_check set_check check table_misshapen sites_check site_check row_check slice_check strange unordered row_unfilled some every first has within minus
    slices_of
blocked = refl

unblocked : blocks table_b 2 0 ≡ Ok false
unfolding blocks set_site_check set_check check table_misshapen sites_check site_check row_check slice_check strange unordered row_unfilled some every first has within minus
    slices_of
unblocked = refl

a-largest : largest table_a 23 ≡ Ok (set_left 7 1)
unfolding largest set_check check table_misshapen sites_check site_check row_check slice_check strange unordered row_unfilled some every first has within gather slices_of
    Quorum.round Quorum.left Quorum.dropping Quorum.largest Quorum.rounds
a-largest = refl

meeting : shared table_b ≡ Ok None
unfolding shared check table_misshapen sites_check site_check row_check slice_check strange unordered row_unfilled some every least first has within minus gather slices_of
    Quorum.quorum Quorum.round Quorum.left Quorum.dropping Quorum.largest Quorum.rounds Verdicts.beside Verdicts.apart Verdicts.first_apart Verdicts.meets
meeting = refl

a-meets : shared table_a ≡ Ok None
unfolding shared check table_misshapen sites_check site_check row_check slice_check strange unordered row_unfilled some every least first has within minus gather slices_of
    Quorum.quorum Quorum.round Quorum.left Quorum.dropping Quorum.largest Quorum.rounds Verdicts.beside Verdicts.apart Verdicts.first_apart Verdicts.meets
a-meets = refl

not-meeting : shared table_apart ≡ Ok (Some (pair_of 3 12))
unfolding shared check table_misshapen sites_check site_check row_check slice_check strange unordered row_unfilled some every least first has within minus gather slices_of
    Quorum.quorum Quorum.round Quorum.left Quorum.dropping Quorum.largest Quorum.rounds Verdicts.beside Verdicts.apart Verdicts.first_apart Verdicts.meets
not-meeting = refl

some-intact : intact table_a 8 ≡ Ok 7
unfolding intact set_check check table_misshapen sites_check site_check row_check slice_check strange unordered row_unfilled some every least first has within minus gather slices_of
    Quorum.quorum Quorum.round Quorum.left Quorum.dropping Quorum.largest Quorum.rounds Verdicts.beside Verdicts.apart Verdicts.first_apart Verdicts.meets Verdicts.dispensable Verdicts.is_intact Verdicts.intact
some-intact = refl

b-set : set_check table_b 8 ≡ Ok tt
unfolding set_check check table_misshapen sites_check site_check row_check slice_check strange unordered row_unfilled some first has within
b-set = refl

b-run : Taken table_b 0 late (replicate 22 7) (replicate 2 7) 3
unfolding ran run_check roomless list_misshapen set_check check table_misshapen sites_check site_check row_check slice_check strange unordered row_unfilled some every first has within minus
    gather Quorum.round Quorum.left Quorum.largest slices_of questions_of accepting confirming now_accepts now_confirms hears taken out_of_range crooked against unsent answer fresh add passes run run_of
b-run = record { took = refl }

b-runs : run_check table_b 0 (length late) (width 64) 4096 ≡ Ok tt
unfolding run_check roomless list_misshapen set_check check table_misshapen sites_check site_check row_check slice_check strange unordered row_unfilled some first has within
b-runs = refl

-- the numbers of table B are below 64
below : List ℕ → Bool
below [] = true
below (x ∷ l) = ltb x 64 && below l

below_at : (l : List ℕ) → below l ≡ true → (i : ℕ) → get_or l i 0 < 64
unfolding below
below_at [] e i = omega arith
below_at (x ∷ l) e zero = ltb-true x 64 (and_l (ltb x 64) (below l) e)
below_at (x ∷ l) e (suc i) = below_at l (and_r (ltb x 64) (below l) e) i

b-small : below rows_b ≡ true
unfolding below
b-small = refl

b-words : Words rows_b
b-words i = let h = below_at rows_b b-small i in omega (arith, h)

b-written : write rows_b (length (replicate {A = ℕ} 2048 0)) ≡ Ok 4
unfolding write write_check check table_misshapen sites_check site_check row_check slice_check strange unordered row_unfilled some first has within
b-written = refl

read_back : (read image_b 4032 ≡ Ok 4) × (read_into (Ok 4) image_b (replicate 4032 0) ≡ rows_b ++ drop 252 (replicate 4032 0))
read_back = write-then-read rows_b (replicate 2048 0) (replicate 4032 0) 4 b-words b-written (omega arith)

reads-sound : (n : ℕ) (c : Check) (m : ℕ) → to_reading n c ≡ Ok m → c ≡ Ok tt
reads-sound n (Ok _) m e = refl
reads-sound n (Err r) m e = let z : ◌≡◌ {A = ℕ} 0 1 = cc in absurd (omega (arith, z))

b-image : image_check image_b ≡ Ok tt
unfolding image_check read
b-image = reads-sound _ (read_check image_b 4032) 4 read_back.0

-- the table that is read from the image is table B
b-blocks : length image_b / 512 ≡ 4
b-blocks = (read_taken image_b 4032 4 read_back.0).1

b-loads : loads 4 image_b ≡ rows_b
unfolding read_into
b-loads =
    sym (take_at (loads 4 image_b) (drop 252 (replicate 4032 0)) 252 (length-loads 4 image_b)) ∙ ap (take 252) read_back.1
    ∙ take_at rows_b (drop 252 (replicate 4032 0)) 252 refl

b-table : table_on image_b ≡ table_b
b-table = ap lists (ap (λ (k : ℕ). loads k image_b) b-blocks ∙ b-loads)

b-list : run_check (table_on image_b) 0 (length late) (width 64) 4096 ≡ Ok tt
b-list = ap (λ (t : Groups). run_check t 0 (length late) (width 64) 4096) b-table ∙ b-runs

pub witnesses : Witnesses
witnesses = record {
  a-sound = a-sound;
  b-sound = b-sound;
  a-quorum = a-quorum;
  no-quorum = no-quorum;
  blocked = blocked;
  unblocked = unblocked;
  a-largest = a-largest;
  meeting = meeting;
  not-meeting = not-meeting;
  some-intact = some-intact;
  relied = record { meet = a-meets; whole = some-intact; somebody = λ e. let z : ◌≡◌ {A = ℕ} 7 0 = e in absurd (omega (arith, z)) };
  b-state = never-unsound.0 table_b 8 b-set;
  b-run = b-run;
  b-image = b-image;
  b-list = b-list;
}
