-- What is said of files, one after another.
use Rattle.std.proofs.Common.{◌≡◌, ℕ, ◌+◌, ◌<◌, Bool, true, false, inl, inr, List, [], ◌∷◌, ◌++◌, length, map}
use Rattle.std.proofs.Common.{take, drop, get_or, refl, sym, ap, ◌∙◌, subst}
use Rattle.std.specs.Prelude.{◌⊎◌, ◌&&◌, Option, Some, Result}
use Rattle.std.specs.Borrow.{Bor}
use Rattle.std.specs.Io.KnownBytes.{Appends}
use Rattle.std.proofs.KnownBytes.{Appends-nil, Appends-trans, Keeps-refl}
use Rattle.std.proofs.lemmas.List.{append-nil, append_assoc, map-append, take_more, take-map, drop-map, drop_more}
use Rattle.timecode.specs.declared.rates.Rate.{Rate}
use Rattle.edl.specs.Texts.{texts_of}
use Rattle.report_texts.specs.Output.{AppendsPart}
use Rattle.report_texts.proofs.PartLemmas.{part_behind}
use Rattle.playout_lists.specs.declared.fault.Fault.{Fault}
use Rattle.playout_lists.specs.declared.fault.Fault.TheVariants.{List as OfList, Stream}
use Rattle.channel_plan.specs.declared.fault.ListFault.{ListFault}
use Rattle.channel_plan.specs.declared.fault.ListFault.TheVariants.{InLine, Unavailable}
use Rattle.edl.specs.Faults.{first_fault as first_fault_of}
use Rattle.playout_lists.specs.declared.streams.InputFault.{InputFault}
use Rattle.playout_lists.specs.declared.streams.InputFault.TheVariants as input
use Rattle.playout_lists.specs.Checking.{ListTells, list_limit}
use Rattle.playout_lists.specs.Streams.{InputHas}
use Rattle.playout_lists.specs.declared.streams.StreamFault.TheVariants.{Input, Write}
use Rattle.playout_lists.specs.Named.{Holds, FileIs, FilesAre, IsNextWritten, ChecksFiles, StopsAtFile, StopsTaking}
use Rattle.playout_lists.specs.Named.{TakesFile, FileHas, FileHolds, are_lists, file_told, file_written, is_list}
use Rattle.playout_lists.specs.Named.{of_files}
use Rattle.playout_lists.specs.declared.comparing.CompareFault.{CompareFault}
use Rattle.playout_lists.specs.declared.comparing.CompareFault.TheVariants.{First, Second, Memory, Output}
use Rattle.playout_lists.specs.Comparing.{CompareHas, ComparesFiles, ComparesTexts, TextsHave, WriteHas}
use Rattle.playout_lists.specs.Telling.{Told, TellsAll}
use Rattle.playout_lists.proofs.TellingLemmas.{tells_nothing, tells_then}

module _ (holds : Holds) (rate : Rate) where
  files_push : (names : List (List ℕ)) (said : List (Result (List ℕ) Fault)) (name : List ℕ) (s : Result (List ℕ) Fault)
      → FilesAre holds rate names said → FileIs holds rate name s
      → FilesAre holds rate (names ++ name ∷ []) (said ++ s ∷ [])
  files_push [] [] name s are is = (is, tt)
  files_push [] (r ∷ said) name s are is = absurd are
  files_push (n ∷ names) [] name s are is = absurd are
  files_push (n ∷ names) (r ∷ said) name s are is = (are.0, files_push names said name s are.1 is)

  of_files_push : (text : List ℕ → Result (List ℕ) Fault → List ℕ) (names : List (List ℕ))
      (said : List (Result (List ℕ) Fault)) (name : List ℕ) (s : Result (List ℕ) Fault) → FilesAre holds rate names said
      → of_files text (names ++ name ∷ []) (said ++ s ∷ []) ≡ of_files text names said ++ text name s
  of_files_push text [] [] name s are = append-nil (text name s)
  of_files_push text [] (r ∷ said) name s are = absurd are
  of_files_push text (n ∷ names) [] name s are = absurd are
  of_files_push text (n ∷ names) (r ∷ said) name s are =
      ap (λ (l : List ℕ). text n r ++ l) (of_files_push text names said name s are.1)
      ∙ sym (append_assoc (text n r) (of_files text names said) (text name s))

  and_true : (b : Bool) → (b && true) ≡ b
  and_true true = refl
  and_true false = refl

  and_assoc : (a b c : Bool) → (a && (b && c)) ≡ ((a && b) && c)
  and_assoc true b c = refl
  and_assoc false b c = refl

  lists_push : (said : List (Result (List ℕ) Fault)) (s : Result (List ℕ) Fault)
      → are_lists (said ++ s ∷ []) ≡ (are_lists said && is_list s)
  lists_push [] s = and_true (is_list s)
  lists_push (r ∷ said) s =
      ap (λ (b : Bool). is_list r && b) (lists_push said s) ∙ and_assoc (is_list r) (are_lists said) (is_list s)

  pub files_first : (written : Option (List ℕ)) (told : Told) → ChecksFiles holds rate [] written written told told true
  files_first written told = ([], tt, Appends-nil written, tells_nothing told, refl)

  files_next : (names : List (List ℕ)) (name : List ℕ) (w0 w1 w2 : Option (List ℕ)) (t0 t1 t2 : Told)
      (quiet fine : Bool) → ChecksFiles holds rate names w0 w1 t0 t1 quiet
      → TakesFile holds rate name w1 w2 t1 t2 fine
      → ChecksFiles holds rate (names ++ name ∷ []) w0 w2 t0 t2 (quiet && fine)
  files_next names name w0 w1 w2 t0 t1 t2 quiet fine so next = (
    so.0 ++ next.0 ∷ [],
    files_push names so.0 name next.0 so.1 next.1,
    subst (Appends w0 w2) (sym (of_files_push file_written names so.0 name next.0 so.1))
        (Appends-trans w0 w1 w2 (of_files file_written names so.0) (file_written name next.0) so.2 next.2.0),
    subst (TellsAll t0 t2) (sym (of_files_push file_told names so.0 name next.0 so.1))
        (tells_then t0 t1 t2 (of_files file_told names so.0) (file_told name next.0) so.3 next.2.1),
    ap (λ (b : Bool). b && fine) so.4 ∙ ap (λ (b : Bool). are_lists so.0 && b) next.2.2 ∙ sym (lists_push so.0 next.0),
  )

  -- the files up to the next one
  pub files_more : (files : List (Bor (List ℕ))) (i : ℕ) (d : Bor (List ℕ)) (w0 w1 w2 : Option (List ℕ))
      (t0 t1 t2 : Told) (quiet fine now : Bool) → i < length files
      → ChecksFiles holds rate (texts_of (take i files)) w0 w1 t0 t1 quiet
      → TakesFile holds rate (get_or files i d).now w1 w2 t1 t2 fine
      → now ≡ (quiet && fine) → ChecksFiles holds rate (texts_of (take (i + 1) files)) w0 w2 t0 t2 now
  files_more files i d w0 w1 w2 t0 t1 t2 quiet fine now lt so next is =
      let longer : texts_of (take (i + 1) files) ≡ texts_of (take i files) ++ (get_or files i d).now ∷ [] =
      ap texts_of (take_more files i d lt)
      ∙ map-append (λ (t : Bor (List ℕ)). t.now) (take i files) (get_or files i d ∷ []) in
      subst (λ (b : Bool). ChecksFiles holds rate (texts_of (take (i + 1) files)) w0 w2 t0 t2 b) (sym is)
      (subst (λ (names : List (List ℕ)). ChecksFiles holds rate names w0 w2 t0 t2 (quiet && fine)) (sym longer)
      (files_next (texts_of (take i files)) (get_or files i d).now w0 w1 w2 t0 t1 t2 quiet fine so next))

  -- the output fails, or memory ends, at the next one
  pub files_stop : (files : List (Bor (List ℕ))) (i : ℕ) (d : Bor (List ℕ)) (w0 w1 w2 : Option (List ℕ))
      (t0 t1 t2 : Told) (quiet : Bool) (fault : Fault) → i < length files
      → ChecksFiles holds rate (texts_of (take i files)) w0 w1 t0 t1 quiet
      → StopsTaking holds rate (get_or files i d).now w1 w2 t1 t2 fault
      → StopsAtFile holds rate (texts_of files) w0 w2 t0 t2 fault
  files_stop files i d w0 w1 w2 t0 t1 t2 quiet fault lt so stop =
      let s = stop.0 in
      let name : List ℕ = (get_or files i d).now in
      let front : texts_of (take i files) ≡ take i (texts_of files) =
      sym (take-map (λ (t : Bor (List ℕ)). t.now) i files) in
      let rest : drop i (texts_of files) ≡ name ∷ texts_of (drop (i + 1) files) =
      drop-map (λ (t : Bor (List ℕ)). t.now) i files ∙ ap texts_of (drop_more files i d lt) in
      let part : AppendsPart w0 w2
      (of_files file_written (texts_of (take i files)) so.0 ++ (file_written name s ++ [])) =
      part_behind w0 w1 w2 (of_files file_written (texts_of (take i files)) so.0) (file_written name s) [] so.2 stop.2.1
      in (
        stop.2.0,
        (
          i,
          so.0,
          file_written name s,
          subst (λ (names : List (List ℕ)). FilesAre holds rate names so.0) front so.1,
          subst (λ (names : List (List ℕ)). IsNextWritten holds rate names (file_written name s)) (sym rest)
              (s, stop.1, refl),
          subst (λ (names : List (List ℕ)). AppendsPart w0 w2 (of_files file_written names so.0 ++ file_written name s))
              front
              (subst (λ (l : List ℕ). AppendsPart w0 w2 (of_files file_written (texts_of (take i files)) so.0 ++ l))
              (append-nil (file_written name s)) part),
          subst (λ (names : List (List ℕ)). TellsAll t0 t2 (of_files file_told names so.0)) front
              (subst (λ (t : Told). TellsAll t0 t (of_files file_told (texts_of (take i files)) so.0)) (sym stop.2.2)
              so.3),
        ),
      )

-- a file that isn't read to its end
pub unread : (holds : Holds) (name : List ℕ) (old new : Option (List ℕ)) (fault : InputFault) → holds name old
    → InputHas list_limit old new fault
    → (rate : Rate) → FileHas holds rate name (Stream (Input fault))
unread holds name old new fault gives has rate = (old, new, gives, has)

-- one that holds no list
pub no_list : (holds : Holds) (rate : Rate) (name text : List ℕ) (fault : ListFault) → FileHolds holds name text
    → (fault ≡ Unavailable) ⊎ (first_fault_of rate false text ≡ Some fault)
    → FileHas holds rate name (OfList fault)
no_list holds rate name text Unavailable is why = tt
no_list holds rate name text (InLine n f) is (inl memory) = absurd (cc)
no_list holds rate name text (InLine n f) is (inr first) = (text, is, first)

-- of the same text by another name
pub tells_of : (rate : Rate) (text same line : List ℕ) → same ≡ text → ListTells rate same line
    → ListTells rate text line
tells_of rate text same line is tells = subst (λ (t : List ℕ). ListTells rate t line) is tells

pub fault_in : (rate : Rate) (text same : List ℕ) (fault : ListFault) → same ≡ text
    → (fault ≡ Unavailable) ⊎ (first_fault_of rate false same ≡ Some fault)
    → (fault ≡ Unavailable) ⊎ (first_fault_of rate false text ≡ Some fault)
fault_in rate text same fault is why =
    subst (λ (t : List ℕ). (fault ≡ Unavailable) ⊎ (first_fault_of rate false t ≡ Some fault)) is why

-- why two texts aren't compared is why their files aren't
pub files_have : (holds : Holds) (rate : Rate) (one other text other_text : List ℕ) (fault : CompareFault)
    → FileHolds holds one text → FileHolds holds other other_text
    → TextsHave rate text other_text fault → CompareHas holds rate one other fault
files_have holds rate one other text other_text (First f) is is_other has =
    subst (λ (f : Fault). FileHas holds rate one f) (sym has.1) (no_list holds rate one text has.0 is has.2)
files_have holds rate one other text other_text (Second f) is is_other has =
    subst (λ (f : Fault). FileHas holds rate other f) (sym has.1)
    (no_list holds rate other other_text has.0 is_other has.2)
files_have holds rate one other text other_text Memory is is_other has = tt
files_have holds rate one other text other_text Output is is_other has = absurd has

pub files_compare : (holds : Holds) (rate : Rate) (one other text other_text lines : List ℕ) → FileHolds holds one text
    → FileHolds holds other other_text → ComparesTexts rate text other_text lines
    → ComparesFiles holds rate one other lines
files_compare holds rate one other text other_text lines is is_other done =
    (done.0, done.1, (text, is, done.2), (other_text, is_other, done.3), done.4)

-- and nothing was written
pub unwritten : (holds : Holds) (rate : Rate) (one other : List ℕ) (written : Option (List ℕ)) (fault : CompareFault)
    → CompareHas holds rate one other fault
    → WriteHas holds rate one other written written fault
unwritten holds rate one other written (First f) has = (has, Keeps-refl written)
unwritten holds rate one other written (Second f) has = (has, Keeps-refl written)
unwritten holds rate one other written Memory has = Keeps-refl written
unwritten holds rate one other written Output has = absurd has

-- of the same texts by other names
pub files_compare_as : (holds : Holds) (rate : Rate) (one other text other_text same other_same lines : List ℕ)
    → same ≡ text → other_same ≡ other_text
    → FileHolds holds one text → FileHolds holds other other_text → ComparesTexts rate same other_same lines
    → ComparesFiles holds rate one other lines
files_compare_as holds rate one other text other_text same other_same lines is other_is holds_one holds_other done =
    files_compare holds rate one other same other_same lines (subst (FileHolds holds one) (sym is) holds_one)
    (subst (FileHolds holds other) (sym other_is) holds_other) done

pub files_have_as : (holds : Holds) (rate : Rate) (one other text other_text same other_same : List ℕ)
    (fault : CompareFault) → same ≡ text → other_same ≡ other_text
    → FileHolds holds one text → FileHolds holds other other_text → TextsHave rate same other_same fault
    → CompareHas holds rate one other fault
files_have_as holds rate one other text other_text same other_same fault is other_is holds_one holds_other has =
    files_have holds rate one other same other_same fault (subst (FileHolds holds one) (sym is) holds_one)
    (subst (FileHolds holds other) (sym other_is) holds_other) has
