pub mod DigestBytes
