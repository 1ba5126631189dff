-- Listed values as text: their lines are read back as these values, whatever stands behind them, and a text that was read as values is their lines.
-- Assumes nothing.
use mathlib.Core.Path.{◌≡◌, refl, sym, ap, subst, ◌∙◌}
use mathlib.Core.List.{List, [], ◌∷◌, ◌++◌, append-nil}
use mathlib.Core.Option.{some}
use Prim.Native.Nat.{ℕ, ◌^◌, ◌<◌}
use native.Mathlib.Nat.{mod-eq_of_lt}
use native.Mathlib.Omega.{arith}
use Rattle.octets.specs.Octets.{Bytes, big_endian, bytes_of}
use Rattle.octets.proofs.BigEndian.{number_bytes, number_lt}
use Rattle.text.specs.Text.{decimal_line, hex_line}
use Rattle.text.specs.Reading.{Read, failed, got, read_decimal_line, read_hex_line, read_bytes_line, read_number_line}
use Rattle.text.proofs.PrintedRead.{decimal_line_read, hex_line_read, bytes_line, number_line}
use Rattle.text.proofs.ReadPrinted.{got_value, through, hex_line_back, decimal_line_back, bytes_line_back, bytes_back, number_back, number_small}
use Rattle.window.specs.declared.Counters.{Counters}
use Rattle.listing.specs.Listing.{slot_name, flag_name, key_id_name, source_name, suite_name, edition_name, size_name, start_name, highest_name, marks_name, accepted_name, bytes_name, replays_name, forged_name}
use Rattle.form.specs.Form.{NamedValues, SettledValues, MovedValues, ArrivalValues, Listing, read_named, read_terms, read_settled, read_moved, read_counters, read_arrivals, at_end, listing_in}
use Rattle.form.specs.declared.values.TermLines.{TermLines}
use Rattle.form.proofs.Chains.{two, Line, Reads, Prints, four_reads, four_was, two_reads, two_got, two_was}
use Rattle.form.proofs.Stretches.{named_of, terms_of, moved_of, counters_from, settled_from, arrivals_from, named_four, terms_four, moved_four, counters_two, settled_two, arrivals_two, text_read}

-- ---- the lines of values

unfoldable pub named_text : NamedValues → List ℕ
named_text v = decimal_line slot_name v.slot ++ decimal_line flag_name v.flag ++ hex_line key_id_name v.key_id ++ hex_line source_name v.source

unfoldable pub term_text : TermLines → List ℕ
term_text v =
    decimal_line suite_name v.suite ++ decimal_line edition_name v.edition ++ decimal_line size_name v.frame.size ++ decimal_line start_name v.frame.start

unfoldable pub moved_text : MovedValues → List ℕ
moved_text v =
    hex_line highest_name (bytes_of 6 v.highest) ++ hex_line marks_name (bytes_of 32 v.marks) ++ decimal_line accepted_name v.accepted ++ decimal_line bytes_name v.bytes

unfoldable pub counter_text : Counters → List ℕ
counter_text c = decimal_line replays_name c.replays ++ decimal_line forged_name c.forged

abbrev pub settled_text : SettledValues → List ℕ
settled_text v = named_text v.named ++ term_text v.terms

abbrev pub arrival_text : ArrivalValues → List ℕ
arrival_text v = moved_text v.moved ++ counter_text v.counters

abbrev pub listing_text : Listing → List ℕ
listing_text l = settled_text l.settled ++ arrival_text l.arrivals

-- ---- the kinds of lines

abbrev decimal : List ℕ → Line ℕ
decimal name = record { read = read_decimal_line name; print = decimal_line name }

abbrev hex : List ℕ → Line (List ℕ)
hex name = record { read = read_hex_line name; print = hex_line name }

-- a number of n bytes; n bytes; and n bytes as those of the number that they write
abbrev number : List ℕ → ℕ → Line ℕ
number name n = record { read = read_number_line name n; print = λ x. hex_line name (bytes_of n x) }

abbrev bytes : List ℕ → ℕ → Line (List ℕ)
bytes name n = record { read = read_bytes_line name n; print = hex_line name }

abbrev numbered : List ℕ → ℕ → Line (List ℕ)
numbered name n = record { read = read_bytes_line name n; print = λ u. hex_line name (bytes_of n (big_endian n u)) }

-- ---- the stretches, as lines of their own

abbrev named_stretch : Line NamedValues
named_stretch = record { read = read_named; print = named_text }

abbrev term_stretch : Line TermLines
term_stretch = record { read = read_terms; print = term_text }

abbrev moved_stretch : Line MovedValues
moved_stretch = record { read = read_moved; print = moved_text }

abbrev counter_stretch : Line Counters
counter_stretch = record { read = read_counters; print = counter_text }

abbrev settled_lines : Line SettledValues
settled_lines = record { read = read_settled; print = settled_text }

abbrev arrival_lines : Line ArrivalValues
arrival_lines = record { read = read_arrivals; print = arrival_text }

abbrev listing_from : SettledValues → ArrivalValues → Listing
listing_from settled arrivals = record { settled = settled; arrivals = arrivals }

-- the whole text, but that something may stand behind it
abbrev reading : List ℕ → Read Listing
reading = two read_settled read_arrivals listing_from

-- ---- read back

-- values that lines can hold
pub record Plain (l : Listing) : Type 0 where
  pub slot : l.settled.named.slot < 2 ^ 64
  pub flag : l.settled.named.flag < 2 ^ 64
  pub keyid : Bytes l.settled.named.key_id
  pub source : Bytes l.settled.named.source
  pub suite : l.settled.terms.suite < 2 ^ 64
  pub edition : l.settled.terms.edition < 2 ^ 64
  pub size : l.settled.terms.frame.size < 2 ^ 64
  pub start : l.settled.terms.frame.start < 2 ^ 64
  pub highest : l.arrivals.moved.highest < 2 ^ 48
  pub marks : l.arrivals.moved.marks < 2 ^ 256
  pub accepted : l.arrivals.moved.accepted < 2 ^ 64
  pub bytes : l.arrivals.moved.bytes < 2 ^ 64
  pub replays : l.arrivals.counters.replays < 2 ^ 64
  pub forged : l.arrivals.counters.forged < 2 ^ 64

module _ (l : Listing) (p : Plain l) where
  abbrev v : NamedValues
  v = l.settled.named

  abbrev w : TermLines
  w = l.settled.terms

  abbrev m : MovedValues
  m = l.arrivals.moved

  abbrev c : Counters
  c = l.arrivals.counters

  named_reads : Reads named_stretch v
  unfolding named_text
  named_reads rest =
      named_four (named_text v ++ rest)
      ∙ four_reads (decimal slot_name) (decimal flag_name) (hex key_id_name) (hex source_name) named_of v.slot v.flag v.key_id v.source (λ l. decimal_line_read slot_name l v.slot p.slot) (λ l. decimal_line_read flag_name l v.flag p.flag)
      (λ l. hex_line_read key_id_name l v.key_id p.keyid) (λ l. hex_line_read source_name l v.source p.source) rest

  terms_reads : Reads term_stretch w
  unfolding term_text
  terms_reads rest =
      terms_four (term_text w ++ rest)
      ∙ four_reads (decimal suite_name) (decimal edition_name) (decimal size_name) (decimal start_name) terms_of w.suite w.edition w.frame.size w.frame.start (λ l. decimal_line_read suite_name l w.suite p.suite)
      (λ l. decimal_line_read edition_name l w.edition p.edition) (λ l. decimal_line_read size_name l w.frame.size p.size)
      (λ l. decimal_line_read start_name l w.frame.start p.start) rest

  moved_reads : Reads moved_stretch m
  unfolding moved_text
  moved_reads rest =
      moved_four (moved_text m ++ rest)
      ∙ four_reads (number highest_name 6) (bytes marks_name 32) (decimal accepted_name) (decimal bytes_name) moved_of m.highest (bytes_of 32 m.marks) m.accepted m.bytes (λ l. number_line highest_name l 6 m.highest p.highest)
      (λ l. bytes_line marks_name l 32 m.marks) (λ l. decimal_line_read accepted_name l m.accepted p.accepted)
      (λ l. decimal_line_read bytes_name l m.bytes p.bytes) rest
      ∙ ap (λ (x : ℕ). got (record { highest = m.highest; marks = x; accepted = m.accepted; bytes = m.bytes }) rest)
      (number_bytes 32 m.marks ∙ mod-eq_of_lt p.marks)

  counters_reads : Reads counter_stretch c
  unfolding counter_text
  counters_reads rest =
      counters_two (counter_text c ++ rest)
      ∙ two_reads (decimal replays_name) (decimal forged_name) counters_from c.replays c.forged (λ l. decimal_line_read replays_name l c.replays p.replays) (λ l. decimal_line_read forged_name l c.forged p.forged) rest

  settled_reads : Reads settled_lines l.settled
  settled_reads rest = settled_two (settled_text l.settled ++ rest) ∙ two_reads named_stretch term_stretch settled_from v w named_reads terms_reads rest

  arrivals_reads : Reads arrival_lines l.arrivals
  arrivals_reads rest = arrivals_two (arrival_text l.arrivals ++ rest) ∙ two_reads moved_stretch counter_stretch arrivals_from m c moved_reads counters_reads rest

  -- the text of values is read as these values
  pub text_reads : listing_in (listing_text l) ≡ some l
  text_reads =
      text_read (listing_text l) (settled_reads (arrival_text l.arrivals))
      (ap read_arrivals (sym (append-nil (arrival_text l.arrivals))) ∙ arrivals_reads [])

-- ---- what was read is the lines of its values

decimal_prints : (name : List ℕ) → Prints (decimal name)
decimal_prints name text x rest e = (decimal_line_back name text rest x e).0

hex_prints : (name : List ℕ) → Prints (hex name)
hex_prints name text u rest e = (hex_line_back name text rest u e).0

named_print : Prints named_stretch
unfolding named_text
named_print text v rest e =
    let q = four_was (decimal slot_name) (decimal flag_name) (hex key_id_name) (hex source_name) named_of (decimal_prints slot_name) (decimal_prints flag_name) (hex_prints key_id_name) (hex_prints source_name) text v rest (sym (named_four text) ∙ e) in
    subst (λ (u : NamedValues). text ≡ named_text u ++ rest) q.made q.is

terms_print : Prints term_stretch
unfolding term_text
terms_print text v rest e =
    let q = four_was (decimal suite_name) (decimal edition_name) (decimal size_name) (decimal start_name) terms_of (decimal_prints suite_name) (decimal_prints edition_name) (decimal_prints size_name) (decimal_prints start_name) text v rest (sym (terms_four text) ∙ e) in
    subst (λ (u : TermLines). text ≡ term_text u ++ rest) q.made q.is

moved_print : Prints moved_stretch
unfolding moved_text
moved_print text v rest e =
    let q = four_was (number highest_name 6) (numbered marks_name 32) (decimal accepted_name) (decimal bytes_name) moved_of (λ l x left e. number_back highest_name l left 6 x e) (λ l u left e. bytes_back marks_name l left 32 u e) (decimal_prints accepted_name) (decimal_prints bytes_name) text v rest (sym (moved_four text) ∙ e) in
    subst (λ (u : MovedValues). text ≡ moved_text u ++ rest) q.made q.is

counters_print : Prints counter_stretch
unfolding counter_text
counters_print text c rest e =
    let q = two_was (decimal replays_name) (decimal forged_name) counters_from (decimal_prints replays_name) (decimal_prints forged_name) text c rest (sym (counters_two text) ∙ e) in
    subst (λ (u : Counters). text ≡ counter_text u ++ rest) q.0.made q.1

pub settled_print : Prints settled_lines
settled_print text v rest e =
    let q = two_was named_stretch term_stretch settled_from named_print terms_print text v rest (sym (settled_two text) ∙ e) in
    subst (λ (u : SettledValues). text ≡ settled_text u ++ rest) q.0.made q.1

pub arrivals_print : Prints arrival_lines
arrivals_print text v rest e =
    let q = two_was moved_stretch counter_stretch arrivals_from moved_print counters_print text v rest (sym (arrivals_two text) ∙ e) in
    subst (λ (u : ArrivalValues). text ≡ arrival_text u ++ rest) q.0.made q.1

-- a text in this form is read to its end
ends_there : (text : List ℕ) (l : Listing) → listing_in text ≡ some l → reading text ≡ got l []
unfolding listing_in
ends_there text l e = whole (reading text) refl e
  where
    whole : (o : Read Listing) → reading text ≡ o → at_end o ≡ some l → reading text ≡ got l []
    whole failed g f = absurd (let z : ◌≡◌ {A = ℕ} 0 1 = cc in omega arith)
    whole (got u []) g f = let same : u ≡ l = cc in g ∙ ap (λ (x : Listing). got x []) same
    whole (got u (c ∷ left)) g f = absurd (let z : ◌≡◌ {A = ℕ} 0 1 = cc in omega arith)

-- and is the text of its values
pub listing_was_printed : (text : List ℕ) (l : Listing) → listing_in text ≡ some l → text ≡ listing_text l
listing_was_printed text l e =
    let q = two_was settled_lines arrival_lines listing_from settled_print arrivals_print text l [] (ends_there text l e) in
    subst (λ (u : Listing). text ≡ listing_text u) q.0.made (q.1 ∙ append-nil (settled_text q.0.w ++ arrival_text q.0.x))

-- ---- what was read fits its places

pub record MovedFits (v : MovedValues) : Type 0 where
  pub highest : v.highest < 2 ^ 64
  pub marks : v.marks < 2 ^ 256
  pub accepted : v.accepted < 2 ^ 64
  pub bytes : v.bytes < 2 ^ 64

abbrev pub CountersFit : Counters → Type 0
CountersFit c = (c.replays < 2 ^ 64) × (c.forged < 2 ^ 64)

moved_fits : (text : List ℕ) (v : MovedValues) (rest : List ℕ) → read_moved text ≡ got v rest → MovedFits v
unfolding read_moved
moved_fits text v rest e =
    let a = through (read_number_line highest_name 6 text) _ v rest e in
    let b = through (read_bytes_line marks_name 32 a.left) _ v rest a.next in
    let c = through (read_decimal_line accepted_name b.left) _ v rest b.next in
    let d = through (read_decimal_line bytes_name c.left) _ v rest c.next in
    let marks = bytes_line_back marks_name a.left b.left 32 b.value b.is in
    subst MovedFits (got_value d.next)
    (record {
      highest = omega (arith, number_small highest_name text a.left 6 a.value a.is);
      marks = number_lt 32 b.value (hex_line_back marks_name a.left b.left b.value marks.0).1;
      accepted = (decimal_line_back accepted_name b.left c.left c.value c.is).1;
      bytes = (decimal_line_back bytes_name c.left d.left d.value d.is).1;
    })

counters_fit : (text : List ℕ) (c : Counters) (rest : List ℕ) → read_counters text ≡ got c rest → CountersFit c
counters_fit text c rest e =
    let q = two_got (decimal replays_name) (decimal forged_name) counters_from text c rest (sym (counters_two text) ∙ e) in
    subst CountersFit q.made ((decimal_line_back replays_name text q.left q.w q.first).1, (decimal_line_back forged_name q.left rest q.x q.second).1)

pub listing_fits : (text : List ℕ) (l : Listing) → listing_in text ≡ some l → MovedFits l.arrivals.moved × CountersFit l.arrivals.counters
listing_fits text l e =
    let q = two_got settled_lines arrival_lines listing_from text l [] (ends_there text l e) in
    let a = two_got moved_stretch counter_stretch arrivals_from q.left q.x [] (sym (arrivals_two q.left) ∙ q.second) in
    let fits : MovedFits a.w × CountersFit a.x = (moved_fits q.left a.w a.left a.first, counters_fit a.left a.x [] a.second) in
    subst (λ (z : Listing). MovedFits z.arrivals.moved × CountersFit z.arrivals.counters) q.made
    (subst (λ (z : ArrivalValues). MovedFits z.moved × CountersFit z.counters) a.made fits)
