-- Two results that meet a contract of this crate coincide: the answer, or what the lent block holds at exit.
use Rattle.std.proofs.Common.{ℕ, List, sym, refl, ◌∙◌}
use Rattle.ground.specs.Coincide.{All, Answers}
use Rattle.block.proofs.check.Kinds as check-kinds
use Rattle.block.proofs.check.Reads as check-reads
use Rattle.block.proofs.put_sums.Kinds as put-sums-kinds
use Rattle.block.proofs.put_sums.Reads as put-sums-reads
use Rattle.block.proofs.sum_words.Kinds as sum-words-kinds
use Rattle.block.proofs.sum_words.Reads as sum-words-reads
use Rattle.block.proofs.with_six.Kinds as with-six-kinds
use Rattle.block.proofs.with_six.Reads as with-six-reads
use Rattle.block.proofs.with_word.Kinds as with-word-kinds
use Rattle.block.proofs.with_word.Reads as with-word-reads

pub check-coincide : Answers check-kinds.ps check-kinds.r check-reads.Post
check-coincide κs a x y s t p q = p ∙ sym q

pub with-word-coincide : Answers with-word-kinds.ps with-word-kinds.r with-word-reads.Post
with-word-coincide κs a x y s t p q = λ i. record { s = (p.0 ∙ sym q.0) i; t = (p.1 ∙ sym q.1) i }

pub with-six-coincide : Answers with-six-kinds.ps with-six-kinds.r with-six-reads.Post
with-six-coincide κs a x y s t p q = λ i. record { s = (p.0 ∙ sym q.0) i; t = (p.1 ∙ sym q.1) i }

pub sum-words-coincide : Answers sum-words-kinds.ps sum-words-kinds.r sum-words-reads.Post
sum-words-coincide κs a x y s t p q = λ i. record { s = (p.0 ∙ sym q.0) i; t = (p.1 ∙ sym q.1) i }

pub put-sums-coincide : All put-sums-kinds.ps put-sums-kinds.r (List ℕ) (λ κs s. s.0.now) put-sums-reads.Post
put-sums-coincide κs a x y s t p q = (refl, p ∙ sym q)
