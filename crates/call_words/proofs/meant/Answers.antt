-- `meant` meets its contract: a number, or one of the names.
use mathlib.Core.Path.{refl, sym, ◌∙◌}
use Rattle.call_words.proofs.Words.{spelt}
use Rattle.call_words.specs.Word.{meant}
use Rattle.text.specs.Text.{ascii}
use Rattle.call_words.proofs.meant.Goals as goal

pub returns-in-Some : goal.returns-in-Some
unfolding meant
returns-in-Some c =
    rw (sym c.figure.ensures ∙ c.in-Some.is) refl

pub returns-then-eq_ignore_ascii_case : goal.returns-then-eq_ignore_ascii_case
unfolding meant
returns-then-eq_ignore_ascii_case c =
    rw (
      sym c.figure.ensures ∙ c.in_default.is,
      spelt _ (ascii "propose") _ c.eq_ignore_ascii_case.ensures.test ∙ c.if-eq_ignore_ascii_case.true,
    ) refl

pub returns-then-eq_ignore_ascii_case-2 : goal.returns-then-eq_ignore_ascii_case-2
unfolding meant
returns-then-eq_ignore_ascii_case-2 c =
    rw (
      sym c.figure.ensures ∙ c.in_default.is,
      spelt _ (ascii "propose") _ c.eq_ignore_ascii_case.ensures.test ∙ c.if-eq_ignore_ascii_case.false,
      spelt _ (ascii "vote") _ c.eq_ignore_ascii_case-2.ensures.test ∙ c.if-eq_ignore_ascii_case-2.true,
    ) refl

pub returns-then-eq_ignore_ascii_case-3 : goal.returns-then-eq_ignore_ascii_case-3
unfolding meant
returns-then-eq_ignore_ascii_case-3 c =
    rw (
      sym c.figure.ensures ∙ c.in_default.is,
      spelt _ (ascii "propose") _ c.eq_ignore_ascii_case.ensures.test ∙ c.if-eq_ignore_ascii_case.false,
      spelt _ (ascii "vote") _ c.eq_ignore_ascii_case-2.ensures.test ∙ c.if-eq_ignore_ascii_case-2.false,
      spelt _ (ascii "accept") _ c.eq_ignore_ascii_case-3.ensures.test ∙ c.if-eq_ignore_ascii_case-3.true,
    ) refl

pub returns-then-eq_ignore_ascii_case-4 : goal.returns-then-eq_ignore_ascii_case-4
unfolding meant
returns-then-eq_ignore_ascii_case-4 c =
    rw (
      sym c.figure.ensures ∙ c.in_default.is,
      spelt _ (ascii "propose") _ c.eq_ignore_ascii_case.ensures.test ∙ c.if-eq_ignore_ascii_case.false,
      spelt _ (ascii "vote") _ c.eq_ignore_ascii_case-2.ensures.test ∙ c.if-eq_ignore_ascii_case-2.false,
      spelt _ (ascii "accept") _ c.eq_ignore_ascii_case-3.ensures.test ∙ c.if-eq_ignore_ascii_case-3.false,
      spelt _ (ascii "drill") _ c.eq_ignore_ascii_case-4.ensures.test ∙ c.if-eq_ignore_ascii_case-4.true,
    ) refl

pub returns-then-eq_ignore_ascii_case-5 : goal.returns-then-eq_ignore_ascii_case-5
unfolding meant
returns-then-eq_ignore_ascii_case-5 c =
    rw (
      sym c.figure.ensures ∙ c.in_default.is,
      spelt _ (ascii "propose") _ c.eq_ignore_ascii_case.ensures.test ∙ c.if-eq_ignore_ascii_case.false,
      spelt _ (ascii "vote") _ c.eq_ignore_ascii_case-2.ensures.test ∙ c.if-eq_ignore_ascii_case-2.false,
      spelt _ (ascii "accept") _ c.eq_ignore_ascii_case-3.ensures.test ∙ c.if-eq_ignore_ascii_case-3.false,
      spelt _ (ascii "drill") _ c.eq_ignore_ascii_case-4.ensures.test ∙ c.if-eq_ignore_ascii_case-4.false,
      spelt _ (ascii "live") _ c.eq_ignore_ascii_case-5.ensures.test ∙ c.if-eq_ignore_ascii_case-5.true,
    ) refl

pub returns : goal.returns
unfolding meant
returns c =
    rw (
      sym c.figure.ensures ∙ c.in_default.is,
      spelt _ (ascii "propose") _ c.eq_ignore_ascii_case.ensures.test ∙ c.if-eq_ignore_ascii_case.false,
      spelt _ (ascii "vote") _ c.eq_ignore_ascii_case-2.ensures.test ∙ c.if-eq_ignore_ascii_case-2.false,
      spelt _ (ascii "accept") _ c.eq_ignore_ascii_case-3.ensures.test ∙ c.if-eq_ignore_ascii_case-3.false,
      spelt _ (ascii "drill") _ c.eq_ignore_ascii_case-4.ensures.test ∙ c.if-eq_ignore_ascii_case-4.false,
      spelt _ (ascii "live") _ c.eq_ignore_ascii_case-5.ensures.test ∙ c.if-eq_ignore_ascii_case-5.false,
    ) refl
